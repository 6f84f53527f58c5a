use Rattle.device_slot.proofs.CallLemmas.{sized_call, calls_told, calls_run}
use Rattle.device_slot.proofs.laws.call_laws.Goals as goal

pub returns-clause-sized : goal.returns-clause-sized
returns-clause-sized g c = sized_call g.N.PageSource.view

pub returns-clause-told : goal.returns-clause-told
returns-clause-told g c = calls_told g.N.PageSource.view

pub returns-clause-run : goal.returns-clause-run
returns-clause-run g c = calls_run g.N.PageSource.view
