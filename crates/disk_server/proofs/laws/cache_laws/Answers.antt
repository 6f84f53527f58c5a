use Rattle.disk_server.proofs.StoppedLemmas.{own_cache, unwritten_cache}
use Rattle.disk_server.proofs.laws.cache_laws.Goals as goal

pub returns-clause-own : goal.returns-clause-own
returns-clause-own g c = own_cache g.S.Store.held g.S.Store.honest g.S.Store.failed

pub returns-clause-unwritten : goal.returns-clause-unwritten
returns-clause-unwritten g c = unwritten_cache g.S.Store.held g.S.Store.honest g.S.Store.failed
