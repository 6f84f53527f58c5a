pub mod NumberLemmas
pub mod FoundLemmas
mod LookLemmas
