use Rattle.lab_mend.proofs.ChoiceLemmas.{zero_law}
use Rattle.lab_mend.proofs.laws.zero_law.Goals as goal

pub returns : goal.returns
returns c = zero_law
