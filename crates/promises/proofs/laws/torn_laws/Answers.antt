use Rattle.promises.proofs.TornLemmas.{stopped_program, stopped_erase}
use Rattle.promises.proofs.laws.torn_laws.Goals as goal

pub returns : goal.returns
returns c = record { program = stopped_program; erase = stopped_erase }
