pub mod Loads
pub mod Images
pub mod Lines
pub mod Rescues
pub mod Migrations
pub mod Records
pub mod Queued
pub mod Refusals
