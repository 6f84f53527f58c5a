use Rattle.lab_dump.proofs.array.tied_law.Goals as goal
use Rattle.lab_dump.proofs.WrittenLemmas as lemmas

pub returns : goal.returns
returns c = lemmas.tied_law
