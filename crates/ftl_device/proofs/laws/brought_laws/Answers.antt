use Rattle.ftl_device.proofs.BringLemmas.{counted_law, lowest_law}
use Rattle.ftl_device.proofs.laws.brought_laws.Goals as goal

pub returns-clause-counted : goal.returns-clause-counted
returns-clause-counted g c = counted_law g.N.PageSource.view

pub returns-clause-lowest : goal.returns-clause-lowest
returns-clause-lowest g c = lowest_law g.N.PageSource.view
