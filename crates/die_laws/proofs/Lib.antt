mod DieLemmas
mod NameLemmas
mod RecordLemmas
mod RefusalLemmas
