pub mod CallLemmas
pub mod NameLemmas
pub mod FolderLemmas
pub mod MeansLemmas
pub mod PairLemmas
pub mod EffectLemmas
