pub mod FoundLemmas
pub mod GrammarLemmas
pub mod MetLemmas
pub mod NumberLemmas
pub mod WordLemmas
