-- what is written and counted as the pages are taken
pub mod Correcting
-- what it comes to
pub mod Corrected
-- the map of what was lost
pub mod Map
-- a dump with codes, read without them
pub mod Decoded
-- the geometries that fit it
pub mod Coded
pub mod CodedLaws
pub mod FoundRoom
-- the memory of a run
pub mod Rooms
