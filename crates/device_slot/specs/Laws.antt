-- WHAT CALLS COME TO.
use Rattle.std.specs.Prelude.{◌≡◌, ℕ, true, List, Option}
use Rattle.page_layout.specs.View.{View}
use Rattle.ftl_device.specs.declared.device.Device.{Device}
use Rattle.ftl_device.specs.Device.{IsDevice}
use Rattle.ftl_device.specs.Calls.{IsWell}
use Rattle.command_queue.specs.Exchanges.{Exchange}
use Rattle.command_queue.specs.Run.{RanFrom}
use Rattle.command_queue.specs.Tells.{Tells}
use Rattle.command_queue.specs.Told.{Until, WasTold}
use Rattle.device_slot.specs.declared.slot.Shortage.{Shortage}
use Rattle.device_slot.specs.Begun.{IsDeviceBegun}
use Rattle.device_slot.specs.Calls.{SlotCall, ToldSized, HasCalled, CalledEach, exchanges_of_calls}

-- a call that hands over bytes is one of these
abbrev pub SizedCallLaw : {N : Type 0} → (view : View N) → Type 0
SizedCallLaw {N} view = (old new : Device N) (noted noted' : Option Shortage) (call : SlotCall) (size : ℕ) (given : List ℕ)
    → ToldSized view old noted call.command size given call.answer call.out new noted' → HasCalled view old call new

-- CALLS ARE A LIST OF COMMANDS, told one after another: whatever the die does
abbrev pub CallsToldLaw : {N : Type 0} → (view : View N) → Type 0
CallsToldLaw {N} view = (old new : Device N) (calls : List SlotCall) → IsDevice view.flash old
    → CalledEach view old calls new → WasTold view old (exchanges_of_calls calls) new

-- of an honest die, the device is well, and these are a run of the array that the image of this die holds
abbrev pub RunsFromBegun : {N : Type 0} → (view : View N) → (first : Device N) → IsDeviceBegun view first → List Exchange → Device N → Type 0
RunsFromBegun view first begun xs mid = view.honest first.engine.nand ≡ true
    → IsWell view.flash mid × RanFrom view (view.flash first.engine.nand) 0 begun.accepted.claim xs mid

-- AND FROM A DEVICE THAT POWER BROUGHT they are the headline's run: those before the first fault of the bus
abbrev pub CallsRunLaw : {N : Type 0} → (view : View N) → Type 0
CallsRunLaw {N} view = (first new : Device N) (calls : List SlotCall) (begun : IsDeviceBegun view first)
    → CalledEach view first calls new
    → Until (RunsFromBegun view first begun) (Tells view) (exchanges_of_calls calls) new
