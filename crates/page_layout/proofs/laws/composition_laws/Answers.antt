use Rattle.page_layout.proofs.StepLemmas.{Keeps-refl, Keeps-trans, Keeps-Writes, Writes-Keeps}
use Rattle.page_layout.proofs.laws.composition_laws.Goals as goal

pub returns-clause-nothing : goal.returns-clause-nothing
returns-clause-nothing c = Keeps-refl

pub returns-clause-twice : goal.returns-clause-twice
returns-clause-twice c = Keeps-trans

pub returns-clause-then_writes : goal.returns-clause-then_writes
returns-clause-then_writes c = Keeps-Writes

pub returns-clause-then_keeps : goal.returns-clause-then_keeps
returns-clause-then_keeps c = Writes-Keeps
