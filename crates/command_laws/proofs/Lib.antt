mod CommandLemmas
mod RescueLemmas
mod MigrationLemmas
mod QueueLemmas
mod AskedLemmas
mod RefusalLemmas
