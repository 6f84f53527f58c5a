pub mod CallWords
pub mod Ends
pub mod Lines
pub mod Links
pub mod RestWords
