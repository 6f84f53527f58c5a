use Rattle.disk_laws.proofs.AskedRunLemmas.{run_asks}
use Rattle.disk_laws.proofs.RunLemmas.{cut_leaves_law, killed_run, lost_run_law, on_the_way, one_call}
use Rattle.disk_laws.proofs.SessionLemmas.{session}
use Rattle.disk_laws.proofs.run_laws.Goals as goal

pub returns-clause-one : goal.returns-clause-one
returns-clause-one g c = one_call g.N.PageSource.view

pub returns-clause-session : goal.returns-clause-session
returns-clause-session g c = session g.N.PageSource.view

pub returns-clause-killed : goal.returns-clause-killed
returns-clause-killed g c = killed_run g.N.PageSource.view

pub returns-clause-lost : goal.returns-clause-lost
returns-clause-lost g c = lost_run_law g.N.PageSource.view

pub returns-clause-cut : goal.returns-clause-cut
returns-clause-cut g c = cut_leaves_law g.N.PageSource.view

pub returns-clause-way : goal.returns-clause-way
returns-clause-way g c = on_the_way g.N.PageSource.view

pub returns-clause-asks : goal.returns-clause-asks
returns-clause-asks g c = run_asks g.N.PageSource.view
