pub mod LifeLemmas
pub mod StoreLemmas
