-- the disk of a store that a crash may have left torn
pub mod Listed
pub mod Recovered
