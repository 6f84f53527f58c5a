pub mod Table
pub mod TablePage
pub mod Laws
pub mod Marks
