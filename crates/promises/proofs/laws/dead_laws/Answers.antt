use Rattle.promises.proofs.StopLemmas.{dead_erase, dead_join, live_erase}
use Rattle.promises.proofs.laws.dead_laws.Goals as goal

pub returns : goal.returns
returns c = record { erase = dead_erase; live = live_erase; join = dead_join }
