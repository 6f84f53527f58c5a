use Rattle.command_queue.proofs.EventLemmas.{read_only_event, spent_event, left_event, flush_event, read_event, pin_event, image_event}
use Rattle.command_queue.proofs.laws.fair_laws.Goals as goal

pub returns-clause-read_only : goal.returns-clause-read_only
returns-clause-read_only c = read_only_event

pub returns-clause-spent : goal.returns-clause-spent
returns-clause-spent c = spent_event

pub returns-clause-left : goal.returns-clause-left
returns-clause-left c = left_event

pub returns-clause-flush : goal.returns-clause-flush
returns-clause-flush c = flush_event

pub returns-clause-reads : goal.returns-clause-reads
returns-clause-reads c = read_event

pub returns-clause-pins : goal.returns-clause-pins
returns-clause-pins c = pin_event

pub returns-clause-image : goal.returns-clause-image
returns-clause-image c = image_event
