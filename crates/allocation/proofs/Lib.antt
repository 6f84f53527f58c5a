pub mod CountLemmas
pub mod SafeLemmas
pub mod VictimLemmas
pub mod BegunLemmas
pub mod TallyLemmas
pub mod OtherLemmas
