pub mod Bus
pub mod Keeps
