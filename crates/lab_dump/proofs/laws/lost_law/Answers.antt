use Rattle.lab_dump.proofs.LostLemmas as lemmas
use Rattle.lab_dump.proofs.laws.lost_law.Goals as goal

pub returns : goal.returns
returns c = lemmas.lost_law
