pub mod Stream
pub mod Counts
pub mod Put
pub mod Spending
pub mod Laws
