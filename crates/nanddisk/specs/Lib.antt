-- the stores of dies in files of the system
pub mod Stores
-- and how its file is locked
pub mod Locks
-- and which slot of its mark's file is written next
pub mod Marks
