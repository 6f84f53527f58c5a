use Rattle.lab_arrange.proofs.LawLemmas.{stacked_law, turns_law}
use Rattle.lab_arrange.proofs.laws.area_laws.Goals as goal

pub returns-clause-stacked : goal.returns-clause-stacked
returns-clause-stacked c = stacked_law

pub returns-clause-turns : goal.returns-clause-turns
returns-clause-turns c = turns_law
