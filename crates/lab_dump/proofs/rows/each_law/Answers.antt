use Rattle.lab_dump.proofs.RowLemmas.{each_law}
use Rattle.lab_dump.proofs.rows.each_law.Goals as goal

pub returns : goal.returns
returns c = each_law
