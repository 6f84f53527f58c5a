use Rattle.lab_shapes.proofs.TriedLemmas
use Rattle.lab_shapes.proofs.laws.tried_law.Goals as goal

pub returns : goal.returns
returns c = TriedLemmas.tried_law
