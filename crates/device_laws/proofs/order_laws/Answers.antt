use Rattle.device_laws.proofs.OrderLemmas.{highest_last, last_table, spelled_table}
use Rattle.device_laws.proofs.order_laws.Goals as goal

pub returns-clause-highest : goal.returns-clause-highest
returns-clause-highest g c = highest_last g.N.PageSource.view

pub returns-clause-last : goal.returns-clause-last
returns-clause-last g c = last_table g.N.PageSource.view

pub returns-clause-spelled : goal.returns-clause-spelled
returns-clause-spelled g c = spelled_table g.N.PageSource.view
