-- The die of a served image tells a record.
use Rattle.std.specs.Prelude.{IsSome}
use Rattle.commands.specs.Serve.{Driver, recorded_of}

-- THE DRIVER OF A SERVED DIE tells a record at each moment: what is said of a die that tells one is said of it
abbrev pub ServedTellsLaw : Type 0
ServedTellsLaw = (d : Driver) → IsSome (recorded_of d)
