use Rattle.lab_dump.proofs.RowLemmas.{within_law}
use Rattle.lab_dump.proofs.rows.within_law.Goals as goal

pub returns : goal.returns
returns c = within_law
