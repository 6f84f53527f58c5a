pub mod Session
pub mod Checked
pub mod Laws
