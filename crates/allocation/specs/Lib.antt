pub mod State
pub mod Begun
pub mod Step
pub mod View
pub mod Counts
pub mod Laws
