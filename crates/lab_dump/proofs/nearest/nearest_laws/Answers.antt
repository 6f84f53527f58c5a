use Rattle.lab_dump.proofs.NearestLemmas.{legible_law, nearest_law, none_law}
use Rattle.lab_dump.proofs.nearest.nearest_laws.Goals as goal

pub returns-clause-legible : goal.returns-clause-legible
returns-clause-legible c = legible_law

pub returns-clause-nearest : goal.returns-clause-nearest
returns-clause-nearest c = nearest_law

pub returns-clause-none : goal.returns-clause-none
returns-clause-none c = none_law
