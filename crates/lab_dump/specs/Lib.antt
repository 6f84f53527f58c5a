-- a page as its bytes, and its single bits
pub mod PageBytes
-- a dump that a reader gives, page by page
pub mod Scan
-- the rows that are asked for
pub mod Rows
-- the array with pages shown that are not sound
pub mod Damaged
-- what is held of a sector while its array is written
pub mod Held
-- the pieces while they are written
pub mod Writing
-- what they are in the end
pub mod Written
-- the image as of a sequence
pub mod Until
-- the pages of a sector, newest first
pub mod History
-- why no file was made of a dump
pub mod Unmade
-- bad blocks whose pages leave nothing open
pub mod Bad
-- what a dump leaves open of its array
pub mod Doubts
-- what pages say that are neither erased nor sound
pub mod Said
-- what a pass notes of that
pub mod Doubting
-- what all of it comes to
pub mod Concluding
-- how many of its sectors may be older
pub mod Bound
-- how many of them besides those that pages name
pub mod Named
-- the map of the array
pub mod Map
-- which sectors have lost a page, and which never have
pub mod Lost
-- what is held of a sector while it is compared
pub mod Trace
-- what a comparison comes to
pub mod Compared
-- how many pages are of each sort
pub mod Count
-- how the keys and the table pages stand
pub mod Keys
-- what a pass notes that surveys
pub mod Noted
-- the survey as a whole
pub mod Surveyed
-- the page of a row
pub mod Pages
-- what the pages are that are looked at
pub mod Sample
-- what all pages tell of the blocks and the sectors
pub mod Told
-- which shapes a dump may have
pub mod Shape
-- the geometries that fit
pub mod Fits
-- what the definitions of what fits come to
pub mod FitLaws
-- what can be read where none fits
pub mod Nearest
-- the memory of each run
pub mod Rooms
