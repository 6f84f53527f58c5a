use Rattle.lab_mend.proofs.PairLemmas.{again_law}
use Rattle.lab_mend.proofs.laws.again_law.Goals as goal

pub returns : goal.returns
returns c = again_law
