-- What a call of a queue leaves of its bytes, command by command.
use Rattle.promises.specs.Step as step
use Rattle.command_laws.specs.Queued.{RefusedBytesLaw, OtherCommandBytesLaw}

pub refused_bytes : RefusedBytesLaw
refused_bytes sector fault old new kept = kept

pub other_bytes : OtherCommandBytesLaw
other_bytes (step.Read sector) result old new quiet kept = (let never : ⊥ = cc in absurd never)
other_bytes (step.Write sector body) result old new quiet kept = kept
other_bytes (step.Trim sector) result old new quiet kept = kept
other_bytes step.Flush result old new quiet kept = kept
other_bytes step.Turn result old new quiet kept = kept
