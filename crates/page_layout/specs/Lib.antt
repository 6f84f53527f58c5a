-- What the contracts of page_layout cite, lowest first.

-- a die's numbers and their limits
pub mod Limits
pub mod Geometry
pub mod Faults
-- pages, images and raw images
pub mod Page
pub mod Raw
pub mod Bytes
-- the record of a page, what the page is, and its key
pub mod Sound
pub mod PageLook
pub mod Key
pub mod Word
-- the newest page of a key, the array of sectors, live pages
pub mod Greatest
pub mod Newest
pub mod OneArray
pub mod Live
pub mod Array
pub mod Version
pub mod Block
-- what changes an image, and the die's law
pub mod Counter
pub mod Change
pub mod Flash
pub mod Recording
pub mod DieCalls
pub mod View
pub mod OnlyReads
-- what the definitions come to
pub mod Count
pub mod CounterLaws
pub mod Laws
pub mod ChangeLaws
pub mod VersionLaws
pub mod StepLaws
