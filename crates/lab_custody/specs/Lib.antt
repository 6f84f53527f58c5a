pub mod Verify
pub mod Lines
pub mod Fault
pub mod Verified
pub mod Words
pub mod Reported
pub mod Program
pub mod Laws
