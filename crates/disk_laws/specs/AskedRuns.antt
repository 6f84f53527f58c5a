-- WHAT CALLS OF A DEVICE ASK ITS DIE, call by call, as their contracts say it; and over a store, what that is for its driver.
use Rattle.std.specs.Prelude.{◌≡◌, ◌⊎◌, ℕ, Bool, true, List, [], ◌++◌, Some, Result}
use mathlib.Core.Logic.{inl, inr}
use Rattle.page_layout.specs.View.{View}
use Rattle.page_layout.specs.DieCalls.{AskedNothing, AskedOneMore, AsksOnly, DieCall}
use Rattle.page_layout.specs.Flash.{Operation}
use Rattle.page_layout.specs.Recording.{Records}
use Rattle.onfi_cycles.specs.Driver.{DriverState}
use Rattle.promises.specs.Step as step
use Rattle.promises.specs.Step.{Command}
use Rattle.file_die.specs.Die.{FileState}
use Rattle.file_die.specs.Store.{Held}
use Rattle.nbd_stream.specs.declared.fault.DiskFault.{DiskFault}
use Rattle.ftl_device.specs.declared.device.Device.{Device}
use Rattle.disk_server.specs.Asked.{AsksCall}
use Rattle.disk_server.specs.Disk.{AsksChange, ChangesOne}
use Rattle.disk_server.specs.Opened.{view_in}
use Rattle.disk_laws.specs.Driven.{DriverCalls, StandsReady}
use Rattle.disk_laws.specs.Runs.{DeviceCalls, IsDiskCall, NoCall, OneMore}

-- A STATE OF A DIE ON THE WAY of calls of it: before them, between two, or behind them
abbrev pub IsOnTheWay : {N : Type 0} → (called : N → DieCall → N → Type 0) → (old new : N) → AsksOnly called old new → (at : N) → Type 0
IsOnTheWay called old new AskedNothing at = at ≡ old
IsOnTheWay called old new (AskedOneMore mid last call more one) at = IsOnTheWay called old mid more at ⊎ (at ≡ last)

-- ON THE WAY OF ONE CALL OF A DEVICE, by what this says that it asked. A sector is cleared by a read, and a trim where one was made
abbrev pub IsInTrim : {N P Q : Type 0} → (die : View N) → (n : ℕ) → (command : Command) → (old : Device N) → (result : Result (Unit {0}) DiskFault) → (new : Device N) → P ⊎ (Q × AsksChange die n command old result new)
    → (at : N) → Type 0
IsInTrim die n command old result new (inl zeros) at = ⊥
IsInTrim die n command old result new (inr (others, asks)) at = IsOnTheWay die.called old.engine.nand new.engine.nand asks.changes.stays.asked at

unfoldable pub IsInCall : {N : Type 0} → (die : View N) → (old new : Device N) → IsDiskCall die old new → (at : N) → Type 0
unfolding AsksCall ChangesOne
IsInCall die old new (inl (inl asks)) at = IsOnTheWay die.called old.engine.nand new.engine.nand asks.asked at
IsInCall die old new (inl (inr (inl (result, (n, inl (command, asks)))))) at = IsOnTheWay die.called old.engine.nand new.engine.nand asks.changes.stays.asked at
IsInCall die old new (inl (inr (inl (result, (n, inr asks))))) at =
    IsOnTheWay die.called old.engine.nand asks.mid.engine.nand asks.asks.asked at ⊎ IsInTrim die n (step.Trim n) asks.mid result new asks.trims at
IsInCall die old new (inl (inr (inr (result, asks)))) at = IsOnTheWay die.called old.engine.nand new.engine.nand asks.upkeeps.stays.asked at
IsInCall die old new (inr (result, asks)) at = IsOnTheWay die.called old.engine.nand new.engine.nand asks.upkeeps.stays.asked at

-- ON THE WAY OF CALLS OF A DEVICE, one after another
abbrev pub IsInRun : {N : Type 0} → (die : View N) → (old : Device N) → (log : List Operation) → (new : Device N) → DeviceCalls die old log new → (at : N) → Type 0
IsInRun die old log new NoCall at = at ≡ old.engine.nand
IsInRun die old log new (OneMore before mid more last run does) at = IsInRun die old before mid run at ⊎ IsInCall die mid last does.asks at

-- ---- laws

-- WHATEVER THE DIE DOES, IT IS ASKED BY CALLS OF IT ALONE: up to each state on the way, and from there on. As the calls of the device begin and as they end it is in such a state
abbrev pub RunAsksLaw : {N : Type 0} → View N → Type 0
RunAsksLaw {N} die = (old new : Device N) (log : List Operation) (run : DeviceCalls die old log new)
    → ((at : N) → IsInRun die old log new run at → AsksOnly die.called old.engine.nand at × AsksOnly die.called at new.engine.nand)
    × IsInRun die old log new run old.engine.nand × IsInRun die old log new run new.engine.nand

-- OF A DIE IN AN HONEST STORE these are calls of its driver, from where it stands ready to where nothing is at hand in its record: up to each state on the way, and from there on, each program and erase was answered, and the record
-- gained just these; and the driver stands ready there
abbrev pub AsksDriverLaw : {S : Type 0} → (S → Held) → (honest : S → Bool) → (failed : S → ℕ) → Type 0
AsksDriverLaw {S} held honest failed = (old new at : DriverState (FileState S)) (asked : AsksOnly (view_in held honest failed).called old new) → honest old.bus.store ≡ true → StandsReady held old → new.told.at_hand ≡ []
    → IsOnTheWay (view_in held honest failed).called old new asked at
    → (first : List Operation) × (later : List Operation) × DriverCalls held honest failed old first at × StandsReady held at × DriverCalls held honest failed at later new
    × Records (Some old.told) (first ++ later) (Some new.told)
