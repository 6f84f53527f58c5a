-- what a store holds, and what each call makes of it
pub mod Store
-- what that comes to
pub mod Laws
-- a die over a store
pub mod Die
-- what its cycles come to
pub mod DieLaws
-- how it is opened
pub mod Open
-- a store in memory
pub mod Memory
-- a file of bytes
pub mod Bytes
-- a file of rows
pub mod Rows
-- what bytes over others are, and the rows of a file
pub mod FileLaws
-- why calls of a file failed
pub mod FaultLaws
