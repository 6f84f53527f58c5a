use Rattle.command_queue.proofs.EventLemmas.{event_tells, run_stops, run_records, stale_memory, quiet_memory}
use Rattle.command_queue.proofs.laws.event_laws.Goals as goal

pub returns-clause-tells : goal.returns-clause-tells
returns-clause-tells g c = event_tells g.N.PageSource.view

pub returns-clause-stops : goal.returns-clause-stops
returns-clause-stops g c = run_stops g.N.PageSource.view

pub returns-clause-records : goal.returns-clause-records
returns-clause-records g c = run_records g.N.PageSource.view

pub returns-clause-stale : goal.returns-clause-stale
returns-clause-stale g c = stale_memory

pub returns-clause-quiet : goal.returns-clause-quiet
returns-clause-quiet g c = quiet_memory
