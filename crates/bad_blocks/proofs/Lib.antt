pub mod TableLemmas
pub mod WordLemmas
pub mod PageLemmas
pub mod SizeLemmas
pub mod RangeLemmas
