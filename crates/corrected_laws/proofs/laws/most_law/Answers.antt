use Rattle.corrected_laws.proofs.MostLemmas.{most_law}
use Rattle.corrected_laws.proofs.laws.most_law.Goals as goal

pub returns : goal.returns
returns c = most_law
