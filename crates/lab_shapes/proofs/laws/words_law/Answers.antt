use Rattle.lab_shapes.proofs.WordLemmas
use Rattle.lab_shapes.proofs.laws.words_law.Goals as goal

pub returns : goal.returns
returns c = WordLemmas.words_law
