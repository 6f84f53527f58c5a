pub mod CallLemmas
pub mod MostLemmas
pub mod PowerLemmas
pub mod StartedLemmas
