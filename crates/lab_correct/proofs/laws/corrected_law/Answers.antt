use Rattle.lab_correct.proofs.DoneLemmas.{corrected_law}
use Rattle.lab_correct.proofs.laws.corrected_law.Goals as goal

pub returns : goal.returns
returns c = corrected_law
