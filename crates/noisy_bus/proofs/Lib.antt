pub mod HeldLemmas
pub mod CalledLemmas
