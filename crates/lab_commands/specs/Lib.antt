-- what the caller gives
pub mod Files
-- what the words of the command line mean
pub mod Words
-- the lines, in words
pub mod Lines
-- the lines, as JSON values
pub mod Values
-- a document of lines, in either form
pub mod Document
-- what each command says
pub mod Reports
-- how a refusal is told
pub mod Text
-- how a name is printed
pub mod Names
-- what is written, all of it or a part
pub mod Output
-- where a command ends before its work
pub mod Undone
pub mod Rows
pub mod Bits
pub mod Numbers
pub mod Array
pub mod Survey
pub mod History
pub mod Compare
pub mod Geometry
pub mod Repair
pub mod Merge
pub mod Correct
pub mod Arrange
pub mod Origin
pub mod Program
-- a text that is printed piece by piece
pub mod Pieces
-- what the texts come to
pub mod Laws
