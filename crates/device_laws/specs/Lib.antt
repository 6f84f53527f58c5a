pub mod Collections
pub mod Logs
pub mod Turns
pub mod Reads
pub mod Flushes
pub mod Brought
pub mod FlushOrder
