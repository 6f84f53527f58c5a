pub mod ReadLemmas
pub mod LawLemmas
pub mod ShowLemmas
pub mod StoreLemmas
pub mod AnyLemmas
