-- a page as it reads, and what is wrong with it
pub mod Reading
-- a file of pages with their codes
pub mod File
-- the store over it
pub mod Coded
-- what that comes to
pub mod Laws
-- a store with codes, or one without
pub mod Either
