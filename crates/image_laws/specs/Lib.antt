pub mod Refusals
pub mod Certificates
pub mod Sectors
pub mod Tables
pub mod Formats
pub mod Kept
pub mod Power
pub mod Versions
