mod LostLemmas
mod LawLemmas
mod FindLemmas
