use Rattle.lab_mend.proofs.RepairedLemmas.{own_law}
use Rattle.lab_mend.proofs.laws.own_law.Goals as goal

pub returns : goal.returns
returns c = own_law
