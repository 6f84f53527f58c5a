use Rattle.device_laws.proofs.BroughtLemmas.{counted_by, few_programs, one_renewed, room_log}
use Rattle.device_laws.proofs.brought_laws.Goals as goal

pub returns-clause-counted : goal.returns-clause-counted
returns-clause-counted g c = counted_by g.N.PageSource.view

pub returns-clause-few : goal.returns-clause-few
returns-clause-few g c = few_programs

pub returns-clause-renewed : goal.returns-clause-renewed
returns-clause-renewed g c = one_renewed g.N.PageSource.view

pub returns-clause-room : goal.returns-clause-room
returns-clause-room g c = room_log g.N.PageSource.view
