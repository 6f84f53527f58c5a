use Rattle.command_queue.proofs.TurnsLemmas.{turns_in_a_row_law, quiet_turn_law, quiet_event_law}
use Rattle.command_queue.proofs.laws.turn_run_laws.Goals as goal

pub returns-clause-row : goal.returns-clause-row
returns-clause-row g c = turns_in_a_row_law g.N.PageSource.view

pub returns-clause-quiet : goal.returns-clause-quiet
returns-clause-quiet g c = quiet_turn_law g.N.PageSource.view

pub returns-clause-event : goal.returns-clause-event
returns-clause-event g c = quiet_event_law
