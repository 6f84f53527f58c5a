-- what the words of the command line mean
pub mod Words
-- a disk's shape: sizes, the shape for a size, its words and its file
pub mod Sizes
pub mod Shapes
pub mod ShapeWords
pub mod ShapeText
-- the mark beside it
pub mod Mark
-- its file, and that of the die, as they are synced
pub mod MarkFile
-- the commands
pub mod Asked
pub mod BadBlocks
pub mod Created
pub mod Files
pub mod Info
pub mod Opening
pub mod Program
pub mod Serve
pub mod Text
pub mod Told
-- what is lost of a disk, and the list beside it
pub mod Damage
-- what a look at all of a disk finds
pub mod Check
-- how its device is opened anew
pub mod Anew
-- and one that is ready
pub mod Ready
