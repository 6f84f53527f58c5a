-- which pages a crash left torn, and from where their blocks are cut back
pub mod Torn
-- what taking them away makes of a store
pub mod Taken
-- what that comes to
pub mod Laws
-- what a call over a store wants, and what it leaves of it
pub mod Asked
