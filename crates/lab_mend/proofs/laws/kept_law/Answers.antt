use Rattle.lab_mend.proofs.PairLemmas.{kept_law}
use Rattle.lab_mend.proofs.laws.kept_law.Goals as goal

pub returns : goal.returns
returns c = kept_law
