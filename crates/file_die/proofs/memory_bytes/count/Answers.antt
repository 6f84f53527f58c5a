use Rattle.std.proofs.Math.Facts.{Fits-lt-pow}
use Rattle.file_die.proofs.memory_bytes.count.Goals as goal

pub returns-clause-fit : goal.returns-clause-fit
returns-clause-fit c i = Fits-lt-pow (c.type_inv.bytes i)
