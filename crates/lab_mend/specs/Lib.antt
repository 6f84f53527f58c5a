-- pages with a bit turned
pub mod Bits
-- which bit of a page is mended
pub mod Mend
-- which two bits
pub mod Pairs
-- what was hashed of a page whose bits are tried
pub mod Seal
-- what is written while the pages are taken
pub mod Repairing
-- what was written in the end
pub mod Repaired
-- the pages of a row
pub mod Pages
-- what more than half of them say
pub mod Majority
-- the pages that agree with the readings
pub mod Trial
-- which page is written
pub mod Choice
-- what is found while it is chosen
pub mod Found
-- what is found while pages are tried
pub mod Tried
-- what is written while the rows are taken
pub mod Merging
-- how many pages were tried
pub mod Tries
-- readers that are read in step
pub mod InStep
-- what was written in the end
pub mod Merged
-- the memory of each run
pub mod Rooms
