use Rattle.collection.proofs.Brought.{unshared_copy_law}
use Rattle.collection.proofs.laws.bring_out_laws.Goals as goal

pub returns : goal.returns
returns c = record { unshared = unshared_copy_law }
