use Rattle.std.proofs.Common.{inr}
use Rattle.lab_commands.proofs.arrange.shape_of.Goals as goal

pub returns-in-Err-clause-fault : goal.returns-in-Err-clause-fault
returns-in-Err-clause-fault c = inr (c.in_ok-arrangement.arrangement, c.in_ok-arrangement.ensures.ok, inr (c.in_ok-geometry.geometry, c.in_ok-geometry.ensures.ok, c.in-Err.ensures.err))
