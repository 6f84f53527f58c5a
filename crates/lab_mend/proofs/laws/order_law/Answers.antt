use Rattle.lab_mend.proofs.ChoiceLemmas.{order_law}
use Rattle.lab_mend.proofs.laws.order_law.Goals as goal

pub returns : goal.returns
returns c = order_law
