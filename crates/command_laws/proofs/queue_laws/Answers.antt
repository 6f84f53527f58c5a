use Rattle.command_laws.proofs.QueueLemmas.{refused_bytes, other_bytes}
use Rattle.command_laws.proofs.queue_laws.Goals as goal

pub returns-clause-refused : goal.returns-clause-refused
returns-clause-refused c = refused_bytes

pub returns-clause-other : goal.returns-clause-other
returns-clause-other c = other_bytes
