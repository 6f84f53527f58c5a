pub mod Rows
mod Kept
pub mod TakesLemmas
mod CutLemmas
mod LookLemmas
mod BlockLemmas
mod OrderLemmas
pub mod TakenLemmas
