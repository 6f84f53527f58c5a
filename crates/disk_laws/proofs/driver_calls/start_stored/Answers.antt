use Rattle.disk_laws.proofs.CallLemmas.{begun, ok_part}
use Rattle.disk_laws.proofs.driver_calls.start_stored.Goals as goal

pub returns-clause-stands : goal.returns-clause-stands
returns-clause-stands g c = begun g.S.Store.held g.S.Store.honest g.S.Store.failed _ c.args.die c.geometry-geometry.result c.new.result c.geometry-geometry.ensures c.new.ensures.geometry c.new.ensures.reset

pub returns-clause-honest : goal.returns-clause-honest
returns-clause-honest g c = ok_part _ _ c.new.result c.new.ensures.honest
