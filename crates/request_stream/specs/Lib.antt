pub mod Frames
pub mod Streams
