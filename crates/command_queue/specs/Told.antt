-- What a device was told: many calls, one after another.
use Rattle.std.specs.Prelude.{◌≡◌, ◌≢◌, ◌⊎◌, ℕ, ◌≤◌, true, List, [], ◌∷◌, ◌++◌, Option}
use Rattle.std.specs.Prelude.{None, Some, Err}
use Rattle.std.specs.Option.{ForSome}
use Rattle.std.specs.List.{AllByRecursion}
use Rattle.page_layout.specs.View.{View}
use Rattle.page_layout.specs.Counter.{HasRisen}
use Rattle.mapping_cache.specs.Mapping.{HasLimitsOf}
use Rattle.image_check.specs.Accepted.{Acceptance}
use Rattle.collection.specs.Safe.{ram}
use Rattle.ftl_device.specs.declared.device.Device.{Device}
use Rattle.ftl_device.specs.declared.fault.DeviceFault.{DeviceFault}
use Rattle.ftl_device.specs.declared.fault.DeviceFault.TheVariants.{BusFault}
use Rattle.ftl_device.specs.Begin.{begun_ram}
use Rattle.ftl_device.specs.Device.{IsDevice, IsAcceptedFor}
use Rattle.ftl_device.specs.Calls.{stop_of, IsWell}
use Rattle.command_queue.specs.Exchanges.{Exchange, AreKnown, StopsDevice, AreRefused, StaysStopped}
use Rattle.command_queue.specs.Tells.{Tells, ToldEach}
use Rattle.command_queue.specs.Run.{Ran, RanFrom}

-- ---- many calls

-- an exchange that stopped the device: it is stopped now
abbrev pub AreHalted : Option DeviceFault → List Exchange → Type 0
AreHalted stop xs = AllByRecursion (λ (x : Exchange). (fault : DeviceFault) → x.result ≡ Err fault → StopsDevice x.command fault → stop ≡ Some fault) xs

-- MANY CALLS, one after another, from the one device to the other, whatever the die does. A device that was stopped, before them or by one of
-- them, stays so; `BusFault` came, of a device not stopped before, only where the die's count of failures rose or stands at its top.
pub record AreTold {N : Type 0} (view : View N) (old : Device N) (xs : List Exchange) (new : Device N) : Type 0 where
  pub device : IsDevice view.flash new
  pub sized : new.engine.geometry ≡ old.engine.geometry
  pub limits : HasLimitsOf old.engine.mapping new.engine.mapping
  pub honest_is : view.honest new.engine.nand ≡ view.honest old.engine.nand
  pub failed_is : view.failed old.engine.nand ≤ view.failed new.engine.nand
  pub stopped : ForSome (stop_of old.engine.fault) (λ fault. AreRefused fault xs × (new ≡ old))
  pub halted : AreHalted (stop_of new.engine.fault) xs
  pub stays : StaysStopped xs
  pub going : stop_of old.engine.fault ≡ None → AreKnown xs → stop_of new.engine.fault ≢ Some BusFault
  pub rose : stop_of old.engine.fault ≡ None → AreKnown xs ⊎ HasRisen (view.failed old.engine.nand) (view.failed new.engine.nand)
  pub each : ToldEach view old xs new

-- ---- up to the first fault of the bus

-- one call leads to the end, and those after it change nothing; with no call at all the end is here
abbrev pub EndsByOneCall : {S : Type 0} → (S → Exchange → S → Type 0) → S → List Exchange → S → Type 0
EndsByOneCall Fails mid [] new = new ≡ mid
EndsByOneCall Fails mid (x ∷ xs) new = Fails mid x new

-- UP TO THE FIRST FAULT OF THE BUS. The calls before it lead to `mid`, and were all answered. The call in which the bus failed and all after it
-- were answered `BusFault`; that call leads from `mid` to the end, and those after it change nothing. With no such fault all calls come before
-- it, and `mid` is the end.
pub record Until {S : Type 0} (Runs : List Exchange → S → Type 0) (Fails : S → Exchange → S → Type 0) (xs : List Exchange) (new : S) : Type 0 where
  pub before : List Exchange
  pub rest : List Exchange
  pub joined : xs ≡ before ++ rest
  pub known : AreKnown before
  pub refused : AreRefused BusFault rest
  pub mid : S
  pub runs : Runs before mid
  pub fails : EndsByOneCall Fails mid rest new

-- calls that were all answered: of an honest die they are a run
abbrev pub RunsTo : {N : Type 0} → (view : View N) → Device N → List Exchange → Device N → Type 0
RunsTo view old xs mid = AreTold view old xs mid × (view.honest old.engine.nand ≡ true → IsWell view.flash old → IsWell view.flash mid × Ran view old xs mid)

-- A LIST OF CALLS: those before the first fault of the bus are a run, and all from it on answer that fault.
pub record WasTold {N : Type 0} (view : View N) (old : Device N) (xs : List Exchange) (new : Device N) : Type 0 where
  pub calls : AreTold view old xs new
  pub until : Until (RunsTo view old) (Tells view) xs new

-- ---- from an accepted certificate

-- the same of a device that `start_at` began over this die, at this share
abbrev pub RunsFrom : {N : Type 0} → (view : View N) → N → (share : ℕ) → Acceptance → List Exchange → Device N → Type 0
RunsFrom view nand share accepted xs mid = view.honest nand ≡ true → IsAcceptedFor (view.flash nand) accepted
    → IsWell view.flash mid × RanFrom view (view.flash nand) share accepted.claim xs mid

-- `start_at` began a device over this die, at this share, and it was told these, one after another
pub record ToldFrom {N : Type 0} (view : View N) (nand : N) (share : ℕ)
    (accepted : Acceptance) (xs : List Exchange) (new : Device N) : Type 0 where
  pub first : Device N
  pub nand_is : first.engine.nand ≡ nand
  pub begun : ram first.engine ≡ begun_ram (view.flash nand).geometry share accepted.claim accepted.stale
  pub told : WasTold view first xs new
