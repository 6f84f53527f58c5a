mod CallLemmas
mod EndLemmas
mod LineLemmas
mod LinkLemmas
mod RestLemmas
