pub mod Serving
pub mod Answering
pub mod Checking
pub mod LawLemmas
