use Rattle.disk_laws.proofs.AskedRunLemmas.{asks_driver}
use Rattle.disk_laws.proofs.DrivenLemmas.{loses, stop_loses, stops, tells}
use Rattle.disk_laws.proofs.StoreRunLemmas.{store_run}
use Rattle.disk_laws.proofs.driver_laws.Goals as goal

pub returns-clause-tells : goal.returns-clause-tells
returns-clause-tells g c = tells g.S.Store.held g.S.Store.honest g.S.Store.failed

pub returns-clause-loses : goal.returns-clause-loses
returns-clause-loses g c = loses g.S.Store.held g.S.Store.honest g.S.Store.failed

pub returns-clause-stops : goal.returns-clause-stops
returns-clause-stops g c = stops g.S.Store.held g.S.Store.honest g.S.Store.failed

pub returns-clause-run : goal.returns-clause-run
returns-clause-run g c = store_run g.S.Store.held g.S.Store.honest g.S.Store.failed

pub returns-clause-stop_loses : goal.returns-clause-stop_loses
returns-clause-stop_loses g c = stop_loses g.S.Store.held g.S.Store.honest g.S.Store.failed

pub returns-clause-asks : goal.returns-clause-asks
returns-clause-asks g c = asks_driver g.S.Store.held g.S.Store.honest g.S.Store.failed
