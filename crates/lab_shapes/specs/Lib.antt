-- the arrangements that are tried
pub mod Tried
-- a dump that is put in order
pub mod Ordered
-- what fits it so, and what fits best
pub mod Arranged
-- one more is tried
pub mod Better
-- two planes
pub mod Planes
-- the laws, each as one statement
pub mod Laws
-- the words of an arrangement
pub mod Words
-- the memory of a search
pub mod Rooms
