use Rattle.mount.proofs.ReadyLemmas.{ready}
use Rattle.mount.proofs.laws.formatted_laws.Goals as goal

pub returns : goal.returns
returns c = ready
