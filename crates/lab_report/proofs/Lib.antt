pub mod ReadingLemmas
pub mod WrittenLemmas
mod DigestLemmas
