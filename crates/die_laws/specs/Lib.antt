pub mod Buses
pub mod Names
pub mod Records
pub mod Refusals
pub mod Stops
