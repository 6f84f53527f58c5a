use Rattle.lab_dump.proofs.RowLemmas.{asked_law}
use Rattle.lab_dump.proofs.rows.asked_law.Goals as goal

pub returns : goal.returns
returns c = asked_law
