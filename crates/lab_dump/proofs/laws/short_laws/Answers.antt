use Rattle.lab_dump.proofs.FitLawLemmas.{short_law, fewer_law}
use Rattle.lab_dump.proofs.laws.short_laws.Goals as goal

pub returns : goal.returns
returns c = record { short = short_law; fewer = fewer_law }
