use Rattle.lab_mend.proofs.BitLemmas.{turned_law}
use Rattle.lab_mend.proofs.laws.turned_law.Goals as goal

pub returns : goal.returns
returns c = turned_law
