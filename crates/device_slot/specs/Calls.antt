-- WHAT A CALL COMES TO, and many calls.
use Rattle.std.specs.Prelude.{◌≡◌, ◌≢◌, ◌⊎◌, ℕ, List, [], ◌∷◌, ◌++◌, Option, None, Some, Result, Ok, Err}
use Rattle.page_layout.specs.View.{View}
use Rattle.promises.specs.Step as step
use Rattle.ftl_device.specs.declared.device.Device.{Device}
use Rattle.ftl_device.specs.declared.fault.DeviceFault.{DeviceFault}
use Rattle.ftl_device.specs.declared.fault.DeviceFault.TheVariants.{OutOfRange, ReadOnly, SequenceSpent, OutOfMemory, Damaged, BusFault}
use Rattle.command_queue.specs.Commands.{KeepsBytes}
use Rattle.command_queue.specs.Exchanges.{Exchange}
use Rattle.command_queue.specs.Tells.{Tells}
use Rattle.device_slot.specs.declared.slot.CallFault.{CallFault}
use Rattle.device_slot.specs.declared.slot.CallFault.TheVariants.{NotStarted, WrongSize, Device as OfDevice}
use Rattle.device_slot.specs.declared.slot.Shortage.{Shortage}
use Rattle.device_slot.specs.Slot.{SlotState}

-- the device's answer as that of a call
abbrev pub call_answer : Result (Unit {0}) DeviceFault → Result (Unit {0}) CallFault
call_answer (Ok done) = Ok done
call_answer (Err fault) = Err (OfDevice fault)

-- the counts of a refusal for want of blocks
abbrev pub shortage_in : Result (Unit {0}) DeviceFault → Option Shortage
shortage_in (Ok done) = None
shortage_in (Err OutOfRange) = None
shortage_in (Err (ReadOnly good wanted failed)) = Some (record { good = good; need = wanted; failed = failed })
shortage_in (Err SequenceSpent) = None
shortage_in (Err OutOfMemory) = None
shortage_in (Err Damaged) = None
shortage_in (Err BusFault) = None

-- ---- one call

-- THE DEVICE WAS TOLD ONE COMMAND, and did of it all that a run of commands needs. The caller has its answer and, of a read that is done, its
-- bytes; of a refusal for want of blocks the counts are noted.
pub record ToldCommand {N : Type 0} (view : View N)
    (old : Device N) (command : step.Command) (given : List ℕ) (answer : Result (Unit {0}) CallFault) (out : List ℕ) (new : Device N) (noted : Option Shortage) : Type 0 where
  pub result : Result (Unit {0}) DeviceFault
  pub answered : answer ≡ call_answer result
  pub shortage : noted ≡ shortage_in result
  pub tells : Tells view old (record { command = command; result = result; bytes = out }) new
  pub kept : KeepsBytes command result given out

-- a call that was refused before the device was told
pub record IsUntold {N : Type 0} (why : CallFault) (old : Device N) (noted : Option Shortage) (given : List ℕ) (answer : Result (Unit {0}) CallFault)
    (out : List ℕ) (new : Device N) (noted' : Option Shortage) : Type 0 where
  pub answered : answer ≡ Err why
  pub same : new ≡ old
  pub noted_same : noted' ≡ noted
  pub kept : out ≡ given

-- A CALL THAT HANDS OVER BYTES: `WrongSize` where they are not as many as a sector has, and nothing is done; else the device is told
pub record ToldSized {N : Type 0} (view : View N)
    (old : Device N) (noted : Option Shortage) (command : step.Command) (size : ℕ) (given : List ℕ) (answer : Result (Unit {0}) CallFault) (out : List ℕ)
    (new : Device N) (noted' : Option Shortage) : Type 0 where
  pub other : size ≢ old.engine.geometry.data_bytes → IsUntold WrongSize old noted given answer out new noted'
  pub whole : size ≡ old.engine.geometry.data_bytes → ToldCommand view old command given answer out new noted'

-- A CALL OF A SLOT: `NotStarted` where no device stands there, and nothing is done; else what it comes to of the one that does
abbrev pub IsCallOn : {N : Type 0} → Option (Device N) → SlotState N → (Device N → Device N → Type 0) → List ℕ → Result (Unit {0}) CallFault → List ℕ → SlotState N → Type 0
IsCallOn None old comes given answer out new = (answer ≡ Err NotStarted) × (new ≡ old) × (out ≡ given)
IsCallOn {N} (Some device) old comes given answer out new = (now : Device N) × (new.device ≡ Some now) × comes device now

abbrev pub IsSlotCall : {N : Type 0} → SlotState N → (Device N → Device N → Type 0) → List ℕ → Result (Unit {0}) CallFault → List ℕ → SlotState N → Type 0
IsSlotCall old comes given answer out new = IsCallOn old.device old comes given answer out new

-- ---- many calls

-- what a program called for, and what it got
pub record SlotCall : Type 0 where
  pub command : step.Command
  pub answer : Result (Unit {0}) CallFault
  pub out : List ℕ

-- the device was told it, or it was refused before that and changed nothing
pub record IsCallTold {N : Type 0} (view : View N) (old : Device N) (call : SlotCall) (new : Device N) : Type 0 where
  pub given : List ℕ
  pub noted : Option Shortage
  pub told : ToldCommand view old call.command given call.answer call.out new noted

abbrev pub HasCalled : {N : Type 0} → (view : View N) → Device N → SlotCall → Device N → Type 0
HasCalled view old call new = ((call.answer ≡ Err WrongSize) × (new ≡ old)) ⊎ IsCallTold view old call new

-- ONE CALL AFTER ANOTHER, from a device to the next
abbrev pub CalledEach : {N : Type 0} → (view : View N) → Device N → List SlotCall → Device N → Type 0
CalledEach view old [] new = new ≡ old
CalledEach {N} view old (call ∷ calls) new =
    (mid : Device N) × HasCalled view old call mid × CalledEach view mid calls new

-- the exchange that a call is, if the device was told it
abbrev pub exchange_by : step.Command → Result (Unit {0}) CallFault → List ℕ → List Exchange
exchange_by command (Ok done) out = record { command = command; result = Ok done; bytes = out } ∷ []
exchange_by command (Err NotStarted) out = []
exchange_by command (Err WrongSize) out = []
exchange_by command (Err (OfDevice fault)) out = record { command = command; result = Err fault; bytes = out } ∷ []

-- THE EXCHANGES OF CALLS: a command each that the device was told, with its answer
abbrev pub exchanges_of_calls : List SlotCall → List Exchange
exchanges_of_calls [] = []
exchanges_of_calls (call ∷ calls) = exchange_by call.command call.answer call.out ++ exchanges_of_calls calls
