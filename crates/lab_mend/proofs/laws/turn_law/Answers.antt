use Rattle.lab_mend.proofs.PairLemmas.{turn_law}
use Rattle.lab_mend.proofs.laws.turn_law.Goals as goal

pub returns : goal.returns
returns c = turn_law
