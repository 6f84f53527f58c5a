use Rattle.disk_laws.proofs.StoreLemmas.{reopened_session, store_session}
use Rattle.disk_laws.proofs.session_laws.Goals as goal

pub returns-clause-reopened : goal.returns-clause-reopened
returns-clause-reopened g c = (let s = g.S.Store in reopened_session s.held s.honest g.S.TellsFull.full s.failed)

pub returns-clause-store : goal.returns-clause-store
returns-clause-store g c = (let s = g.S.Store in store_session s.held s.honest g.S.TellsFull.full s.failed _)
