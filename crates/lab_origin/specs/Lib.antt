-- where the newest page of a sector comes from
pub mod Origin
-- what is held while the rows pass
pub mod Tracing
-- what it comes to
pub mod Traced
