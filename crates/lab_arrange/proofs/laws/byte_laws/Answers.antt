use Rattle.lab_arrange.proofs.LawLemmas.{pair_law, value_law}
use Rattle.lab_arrange.proofs.laws.byte_laws.Goals as goal

pub returns-clause-pairs : goal.returns-clause-pairs
returns-clause-pairs c = pair_law

pub returns-clause-values : goal.returns-clause-values
returns-clause-values c = value_law
