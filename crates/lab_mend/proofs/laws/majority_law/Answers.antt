use Rattle.lab_mend.proofs.MajorityLemmas.{majority_law}
use Rattle.lab_mend.proofs.laws.majority_law.Goals as goal

pub returns : goal.returns
returns c = majority_law
