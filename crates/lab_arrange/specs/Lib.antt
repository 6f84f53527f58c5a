-- where each byte stands
pub mod Place
-- bytes that are read
pub mod Reading
-- what is written
pub mod Arranged
-- the words of an arrangement
pub mod Words
-- the laws, each as one statement
pub mod Laws
-- the memory of a run
pub mod Rooms
