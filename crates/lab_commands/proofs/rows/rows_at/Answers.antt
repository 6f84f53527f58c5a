use Rattle.std.proofs.Common.{refl}
use Rattle.lab_commands.proofs.rows.rows_at.Goals as goal

pub returns-in_default-rows_of-clause-fault : goal.returns-in_default-rows_of-clause-fault
returns-in_default-rows_of-clause-fault c = rw c.in-Some.is (refl, λ rows s. c.in_default-rows_of.not-Some rows (c.rows_of.ensures.all rows s))
