use Rattle.lab_mend.proofs.PairLemmas.{only_law}
use Rattle.lab_mend.proofs.laws.only_law.Goals as goal

pub returns : goal.returns
returns c = only_law
