pub mod PlaceLemmas
pub mod ReadLemmas
pub mod WordLemmas
pub mod LawLemmas
pub mod OnceLemmas
pub mod TripLemmas
pub mod PieceLemmas
