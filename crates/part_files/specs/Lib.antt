-- what is asked of the names of files
pub mod Names
-- what making and naming a part asks
pub mod Parts
-- what naming two files together asks
pub mod Pairs
-- how a part is named
pub mod PartNames
-- which file each name has, and what calls do to that
pub mod Folder
-- what becomes of names by what is asked of them
pub mod FolderLaws
-- what each call makes of names, worked out
pub mod CallLaws
