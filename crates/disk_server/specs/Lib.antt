-- a device of sectors as bytes
pub mod Flat
-- the block device as a device of sectors
pub mod Disk
-- what is asked of it
pub mod Asked
-- of which some are lost
pub mod Guarded
pub mod Laws
pub mod Open
-- the disk in a store
pub mod Made
pub mod Opened
-- what a kill leaves of it
-- what a loss of power leaves of it
pub mod Power
-- a disk that is only read
pub mod Reading
-- a device that is opened anew
pub mod Reopened
pub mod Stopped
pub mod Synced
pub mod Words
