use Rattle.file_die.proofs.MemoryLemmas.{whole_of}
use Rattle.file_die.proofs.memory_store.MemoryStoreStore.geometry.Goals as goal

pub returns-clause-whole : goal.returns-clause-whole
returns-clause-whole c e =
    let i = c.self.inside in
    rw (← c.self.view_is) (whole_of i.geometry i.bytes.items c.self.invariant)
