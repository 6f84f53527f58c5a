pub mod LineLemmas
pub mod CheckLemmas
pub mod ReportLemmas
pub mod LawLemmas
