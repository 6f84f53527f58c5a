use Rattle.lab_mend.proofs.ChoiceLemmas.{choice_law}
use Rattle.lab_mend.proofs.laws.choice_law.Goals as goal

pub returns : goal.returns
returns c = choice_law
