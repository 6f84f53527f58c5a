pub mod BroughtLemmas
mod CollectionLemmas
mod DeviceLemmas
mod OrderLemmas
mod NumberLemmas
