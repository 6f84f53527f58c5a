use Rattle.nbd_stream.proofs.TaskLemmas.{admitted_sound}
use Rattle.nbd_stream.proofs.laws.task_laws.Goals as goal

pub returns : goal.returns
returns c = admitted_sound
