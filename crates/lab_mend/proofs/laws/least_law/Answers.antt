use Rattle.lab_mend.proofs.LeastLemmas.{least_law}
use Rattle.lab_mend.proofs.laws.least_law.Goals as goal

pub returns : goal.returns
returns c = least_law
