use Rattle.lab_mend.proofs.PairLemmas.{repaired_law}
use Rattle.lab_mend.proofs.laws.repaired_law.Goals as goal

pub returns : goal.returns
returns c = repaired_law
