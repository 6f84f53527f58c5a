use Rattle.lab_mend.proofs.ChoiceLemmas.{erased_law}
use Rattle.lab_mend.proofs.laws.erased_law.Goals as goal

pub returns : goal.returns
returns c = erased_law
