use Rattle.collection.proofs.Stops.{one_gain}
use Rattle.collection.proofs.laws.stop_laws.Goals as goal

pub returns : goal.returns
returns c = record { gained = one_gain }
