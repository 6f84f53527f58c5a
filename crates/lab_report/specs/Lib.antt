pub mod Content
pub mod Laws
pub mod Note
pub mod Reading
pub mod Run
pub mod Written
