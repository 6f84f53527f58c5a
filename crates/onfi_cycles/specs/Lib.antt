pub mod Outcomes
pub mod Cycles
pub mod Spelling
pub mod Sent
pub mod Recorded
pub mod Driver
pub mod Called
pub mod Laws
