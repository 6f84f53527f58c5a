-- EXCHANGES: what a device was told, and what it answered.
use Rattle.std.specs.Prelude.{◌≡◌, ◌≢◌, ℕ, List, [], ◌∷◌, map, unwrap_or}
use Rattle.std.specs.Prelude.{Result, Ok, Err}
use Rattle.std.specs.List.{AllByRecursion}
use Rattle.promises.specs.Step as step
use Rattle.promises.specs.Step.{Reply}
use Rattle.ftl_device.specs.declared.fault.DeviceFault.{DeviceFault}
use Rattle.ftl_device.specs.declared.fault.DeviceFault.TheVariants.{OutOfRange, ReadOnly, SequenceSpent, OutOfMemory, Damaged, BusFault}
use Rattle.command_queue.specs.declared.command.Call.{Call}
use Rattle.ftl_device.specs.Calls.{reply_of, read_reply_of}
use Rattle.command_queue.specs.Commands.{told_command}

-- what was answered to it: a read that is done gives these bytes
abbrev pub reply_to_command : step.Command → List ℕ → Result (Unit {0}) DeviceFault → Reply
reply_to_command (step.Read sector) bytes result = read_reply_of bytes result
reply_to_command (step.Write sector body) bytes result = reply_of result
reply_to_command (step.Trim sector) bytes result = reply_of result
reply_to_command step.Flush bytes result = reply_of result
reply_to_command step.Turn bytes result = reply_of result

-- AN EXCHANGE: what a device was told, what it answered, and the bytes that a read gave
pub record Exchange : Type 0 where
  pub command : step.Command
  pub result : Result (Unit {0}) DeviceFault
  pub bytes : List ℕ

abbrev pub reply_in : Exchange → Reply
reply_in x = reply_to_command x.command x.bytes x.result

abbrev pub commands_in : List Exchange → List step.Command
commands_in xs = map (λ (x : Exchange). x.command) xs

abbrev pub replies_in : List Exchange → List Reply
replies_in xs = map reply_in xs

abbrev pub exchange_of : Call → Exchange
exchange_of call = record { command = told_command call; result = unwrap_or call.reply (Ok tt); bytes = call.bytes.items }

abbrev pub exchanges_of : List Call → List Exchange
exchanges_of calls = map exchange_of calls

-- ---- faults

-- the die gave every outcome that it was asked for: after a `BusFault` nothing is known of what it holds
abbrev pub IsKnown : Exchange → Type 0
IsKnown x = x.result ≢ Err BusFault

abbrev pub AreKnown : List Exchange → Type 0
AreKnown xs = AllByRecursion IsKnown xs

-- the fault stops the device: the die's after any command, damage after all but a read
abbrev pub StopsDevice : step.Command → DeviceFault → Type 0
StopsDevice command OutOfRange = ⊥
StopsDevice command (ReadOnly good wanted failed) = ⊥
StopsDevice command SequenceSpent = ⊥
StopsDevice command OutOfMemory = ⊥
StopsDevice (step.Read sector) Damaged = ⊥
StopsDevice (step.Write sector body) Damaged = Unit {0}
StopsDevice (step.Trim sector) Damaged = Unit {0}
StopsDevice step.Flush Damaged = Unit {0}
StopsDevice step.Turn Damaged = Unit {0}
StopsDevice command BusFault = Unit {0}

-- each was answered this fault
abbrev pub AreRefused : DeviceFault → List Exchange → Type 0
AreRefused fault xs = AllByRecursion (λ (x : Exchange). x.result ≡ Err fault) xs

-- after one that stopped the device each is answered its fault
abbrev pub StaysStopped : List Exchange → Type 0
StaysStopped [] = Unit {0}
StaysStopped (x ∷ xs) = ((fault : DeviceFault) → x.result ≡ Err fault → StopsDevice x.command fault → AreRefused fault xs) × StaysStopped xs
