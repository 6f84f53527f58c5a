use Rattle.lab_dump.proofs.FitLawLemmas.{greatest_law, within_law, lower_law, table_law}
use Rattle.lab_dump.proofs.laws.told_laws.Goals as goal

pub returns : goal.returns
returns c = record { greatest = greatest_law; within = within_law; lower = lower_law; table = table_law }
