use Rattle.file_die.proofs.MemoryLemmas.{syncs}
use Rattle.file_die.proofs.memory_store.MemoryStoreStore.sync.Goals as goal

pub returns-clause-syncs : goal.returns-clause-syncs
returns-clause-syncs c e = syncs c.args.self.now.geometry c.args.self.now.pages
