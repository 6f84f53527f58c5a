use Rattle.std.proofs.Common.{refl}
use Rattle.lab_commands.proofs.opening.geometry_at.Goals as goal

pub returns-in_default-clause-fault : goal.returns-in_default-clause-fault
returns-in_default-clause-fault c = (refl, λ numbers spelled. c.in_default.not-Some numbers (c.geometry_numbers.ensures.all numbers spelled))
