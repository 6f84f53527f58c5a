pub mod Frames
pub mod Options
pub mod Handed
pub mod Negotiation
pub mod Tasks
-- steps of one kind, any number
pub mod Through
-- what a disk is asked, and what it answers
pub mod Disk
pub mod Exchanges
pub mod Runs
pub mod Until
pub mod Transmission
-- what a disk in memory comes to
pub mod Memory
