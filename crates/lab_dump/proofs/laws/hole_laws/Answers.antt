use Rattle.lab_dump.proofs.DoubtLemmas.{hole_law}
use Rattle.lab_dump.proofs.BoundLemmas.{hole_lost_law}
use Rattle.lab_dump.proofs.laws.hole_laws.Goals as goal

pub returns-clause-hole : goal.returns-clause-hole
returns-clause-hole c = hole_law

pub returns-clause-lost : goal.returns-clause-lost
returns-clause-lost c = hole_lost_law
