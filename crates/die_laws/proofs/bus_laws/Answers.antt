use Rattle.die_laws.proofs.DieLemmas.{blown}
use Rattle.die_laws.proofs.bus_laws.Goals as goal

pub returns : goal.returns
returns c = record { blown = blown }
