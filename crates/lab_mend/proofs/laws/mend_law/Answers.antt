use Rattle.lab_mend.proofs.MendLemmas.{mend_law}
use Rattle.lab_mend.proofs.laws.mend_law.Goals as goal

pub returns : goal.returns
returns c = mend_law
