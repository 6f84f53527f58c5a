use Rattle.command_laws.proofs.CommandLemmas.{known, input}
use Rattle.command_laws.proofs.file_laws.Goals as goal

pub returns-clause-known : goal.returns-clause-known
returns-clause-known g c = known g.F.FileStore.gives g.F.FileStore.tells

pub returns-clause-input : goal.returns-clause-input
returns-clause-input g c = input g.F.FileStore.gives
