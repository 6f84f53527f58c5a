use Rattle.ftl_device.proofs.TurnLemmas.{left_below_law, turns_law}
use Rattle.ftl_device.proofs.laws.turn_laws.Goals as goal

pub returns-clause-below : goal.returns-clause-below
returns-clause-below g c = left_below_law g.N.PageSource.view.flash

pub returns-clause-turns : goal.returns-clause-turns
returns-clause-turns g c = turns_law g.N.PageSource.view
