pub mod Begun
pub mod Calls
pub mod Laws
pub mod Power
pub mod Slot
