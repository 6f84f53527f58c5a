use Rattle.promises.proofs.StepLemmas.{six, other_bytes}
use Rattle.promises.proofs.laws.worked_run.Goals as goal

pub returns : goal.returns
returns c = record { six = six; other_bytes = other_bytes }
