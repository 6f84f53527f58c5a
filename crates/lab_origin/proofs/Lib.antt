pub mod OriginLemmas
pub mod ReadingLemmas
pub mod TracingLemmas
