pub mod ChipLemmas
pub mod TakenLemmas
pub mod DoneLemmas
pub mod MapLemmas
pub mod DecodedLemmas
pub mod CodedLemmas
pub mod FoundLemmas
pub mod OnceLemmas
