use Rattle.disk_server.proofs.LawLemmas.{below_law, written_law}
use Rattle.disk_server.proofs.laws.sequence_laws.Goals as goal

pub returns-clause-below : goal.returns-clause-below
returns-clause-below g c = below_law g.N.PageSource.view

pub returns-clause-written : goal.returns-clause-written
returns-clause-written g c = written_law g.N.PageSource.view
