use Rattle.disk_laws.proofs.ServedLemmas.{closed_session, served_session}
use Rattle.disk_laws.proofs.served_laws.Goals as goal

pub returns-clause-served : goal.returns-clause-served
returns-clause-served g c = (let s = g.S.Sectors in let y = g.Y.Syncs in served_session s.contents s.honest s.reads s.changes s.flushes s.rests y.synced y.failed y.marked s.next)

pub returns-clause-closed : goal.returns-clause-closed
returns-clause-closed g c = (let s = g.S.Sectors in let y = g.Y.Syncs in closed_session s.contents s.honest s.reads s.changes s.flushes s.rests y.synced y.failed y.marked s.next s.takes)
