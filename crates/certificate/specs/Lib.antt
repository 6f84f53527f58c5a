pub mod Claim
pub mod Spelling
pub mod Parts
pub mod Reading
pub mod Faults
pub mod Laws
pub mod Heads
pub mod Bodies
