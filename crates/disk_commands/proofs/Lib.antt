pub mod GrammarLemmas
pub mod MakeLemmas
pub mod ShapeLemmas
pub mod AskedLemmas
pub mod SizeLemmas
pub mod ShapeTextLemmas
pub mod MarkLemmas
pub mod CreateLemmas
pub mod OpeningLemmas
pub mod ProgramLemmas
pub mod ServeLemmas
pub mod DamageLemmas
pub mod ReadyLemmas
mod MarkFileLemmas
mod TellLemmas
mod BadLemmas
