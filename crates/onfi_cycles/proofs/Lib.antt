pub mod Sending
pub mod Asking
mod Calling
pub mod StatusByte
pub mod Leads
pub mod Operations
pub mod Resets
pub mod Stepping
pub mod TurnLaws
pub mod Noting
