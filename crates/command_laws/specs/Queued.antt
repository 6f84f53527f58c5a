-- What a call of a queue leaves of the bytes that it was handed.
use Rattle.std.specs.Prelude.{◌≡◌, ℕ, Bool, false, List, Result, Err}
use Rattle.promises.specs.Step as step
use Rattle.ftl_device.specs.declared.fault.DeviceFault.{DeviceFault}
use Rattle.command_queue.specs.Commands.{KeepsBytes, is_read}

-- A READ THAT IS REFUSED leaves them as they were
abbrev pub RefusedBytesLaw : Type 0
RefusedBytesLaw = (sector : ℕ) (fault : DeviceFault) (old new : List ℕ) → KeepsBytes (step.Read sector) (Err fault) old new → new ≡ old

-- and so does each other command, refused or not
abbrev pub OtherCommandBytesLaw : Type 0
OtherCommandBytesLaw = (command : step.Command) (result : Result (Unit {0}) DeviceFault) (old new : List ℕ) → is_read command ≡ false → KeepsBytes command result old new → new ≡ old
