use Rattle.lab_mend.proofs.RepairedLemmas.{rows_law}
use Rattle.lab_mend.proofs.laws.rows_law.Goals as goal

pub returns : goal.returns
returns c = rows_law
