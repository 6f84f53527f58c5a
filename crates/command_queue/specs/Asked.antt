-- Many calls of a device, one after another, `migrate_one` among them.
use Rattle.std.specs.Prelude.{◌≡◌, ◌≢◌, ◌⊎◌, ℕ, ◌+◌, ◌≤◌, Bool, true, false, List, [], ◌∷◌, ◌++◌, map, Result, Ok, Err, IfOk}
use Rattle.std.specs.List.{AllByRecursion}
use Rattle.page_layout.specs.View.{View}
use Rattle.page_layout.specs.Flash.{Operation, Leads}
use Rattle.page_layout.specs.Recording.{Records}
use Rattle.page_layout.specs.OnlyReads.{OnlyReads}
use Rattle.page_layout.specs.Version.{AddsNoOld}
use Rattle.promises.specs.Step as step
use Rattle.promises.specs.Step.{Reply, ArrayStep, ArrayRun}
use Rattle.promises.specs.Log.{programs_in}
use Rattle.collection.specs.Safe.{ram, image_in}
use Rattle.collection.specs.Log.{FollowsLog, Wears, Went}
use Rattle.collection.specs.Stops.{room_of}
use Rattle.ftl_device.specs.declared.device.Device.{Device}
use Rattle.ftl_device.specs.declared.fault.DeviceFault.{DeviceFault}
use Rattle.ftl_device.specs.declared.fault.DeviceFault.TheVariants.{BusFault}
use Rattle.ftl_device.specs.Device.{IsDevice}
use Rattle.ftl_device.specs.Calls.{IsWell, state_in, reply_of}
use Rattle.ftl_device.specs.Counts.{is_flush}
use Rattle.ftl_device.specs.Changes.{Upkeeps}
use Rattle.ftl_device.specs.Stopped.{SurvivesStops}
use Rattle.ftl_device.specs.Migrate.{ended, Migrates}
use Rattle.ftl_device.specs.Brings.{HasBrought, BringsOne}
use Rattle.ftl_device.specs.Renewed.{HasNoneOld}
use Rattle.command_queue.specs.Exchanges.{Exchange, reply_in}
use Rattle.command_queue.specs.Tells.{Tells, ToldEach}

-- WHAT A DEVICE WAS ASKED: a command that it was told, with its answer, or a call of `migrate_one`, with its answer
pub data Asked : Type 0 where
  Told : (exchange : Exchange) → Asked
  Migrated : (result : Result Bool DeviceFault) → Asked

-- as the array sees it: `migrate_one` is an idle moment, as a turn
abbrev pub command_asked : Asked → step.Command
command_asked (Told x) = x.command
command_asked (Migrated result) = step.Turn

abbrev pub result_asked : Asked → Result (Unit {0}) DeviceFault
result_asked (Told x) = x.result
result_asked (Migrated result) = ended result

abbrev pub reply_asked : Asked → Reply
reply_asked (Told x) = reply_in x
reply_asked (Migrated result) = reply_of (ended result)

-- the die gave every outcome that it was asked for
abbrev pub HaveOutcomes : List Asked → Type 0
HaveOutcomes calls = AllByRecursion (λ (call : Asked). result_asked call ≢ Err BusFault) calls

-- one of them was a flush that was done
abbrev pub HaveFlushed : List Asked → Type 0
HaveFlushed [] = ⊥
HaveFlushed (call ∷ calls) = ((is_flush (command_asked call) ≡ true) × (result_asked call ≡ Ok tt)) ⊎ HaveFlushed calls

-- ---- what the calls say

-- WHAT THE CONTRACT OF `Device::migrate_one` SAYS, as a list of calls needs it: all that is said of a turn's array, log and image; with `false` no
-- newest page is of version 1, but table pages, and nothing is programmed or erased. With `true` fewer are than before: room was made, and then one
-- page was rescued, the one that was found, or none where making room has moved it; and the cursor went past its row.
pub record MigratesOne {N : Type 0} (view : View N) (old : Device N)
    (result : Result Bool DeviceFault) (new : Device N) : Type 0 where
  pub device : IsDevice view.flash new
  pub sized : new.engine.geometry ≡ old.engine.geometry
  pub upkeeps : Upkeeps view step.Turn old (ended result) new
  pub migrates : view.honest old.engine.nand ≡ true → IsWell view.flash old → 40 ≤ old.engine.geometry.spare_bytes
      → IfOk result (λ found. Migrates found old.engine.geometry (image_in view.flash old.engine) (image_in view.flash new.engine))
  pub rests : IfOk result (λ found. found ≡ false → OnlyReads view old.engine.nand new.engine.nand)
  pub brought : result ≡ Ok true → HasBrought (ram old.engine) (ram new.engine)
  pub brings : view.honest old.engine.nand ≡ true → IsWell view.flash old → result ≡ Ok true → BringsOne view old new
  pub stays : result ≢ Ok true → new.cursor ≡ old.cursor

-- EACH CALL DID WHAT IT PROMISES, from a device to the next
abbrev pub AskedEach : {N : Type 0} → (view : View N) → Device N → List Asked → Device N → Type 0
AskedEach view old [] new = new ≡ old
AskedEach {N} view old (Told x ∷ calls) new =
    (mid : Device N) × Tells view old x mid × AskedEach view mid calls new
AskedEach {N} view old (Migrated result ∷ calls) new =
    (mid : Device N) × MigratesOne view old result mid × AskedEach view mid calls new

-- ---- what is so of them, where the die is honest and gave every outcome

-- OF ONE CALL, whichever it is: its answer is a step of the array, one log leads the die on, a stop at any moment of it leaves either array, no
-- newest page of version 1 is added where the die has version 2, and the device is well after it
pub record DoesCall {N : Type 0} (view : View N) (old : Device N) (call : Asked) (new : Device N) : Type 0 where
  pub sized : new.engine.geometry ≡ old.engine.geometry
  pub step : ArrayStep old.engine.geometry (state_in view.flash old) (command_asked call) (reply_asked call) (state_in view.flash new)
  pub went : Went (ram old.engine) (view.flash old.engine.nand) (view.recorded old.engine.nand) (ram new.engine) (view.flash new.engine.nand) (view.recorded new.engine.nand)
  pub stopped : SurvivesStops old.engine.geometry (room_of (ram old.engine)) (command_asked call) (result_asked call) (image_in view.flash old.engine) (image_in view.flash new.engine) (view.recorded new.engine.nand) went.log
  pub versions : AddsNoOld old.engine.geometry (image_in view.flash old.engine) (image_in view.flash new.engine)
  pub well : IsWell view.flash new

-- of each of them, from a device to the next
abbrev pub DoesEach : {N : Type 0} → View N → Device N → List Asked → Device N → Type 0
DoesEach view old [] new = new ≡ old
DoesEach {N} view old (call ∷ calls) new = (mid : Device N) × DoesCall view old call mid × DoesEach view mid calls new

-- their logs, one after another
abbrev pub log_asked : {N : Type 0} → (view : View N) → (old : Device N) → (calls : List Asked)
    → (new : Device N) → DoesEach view old calls new → List Operation
log_asked view old [] new each = []
log_asked view old (call ∷ calls) new each = each.1.went.log ++ log_asked view each.0 calls new each.2

-- OF ALL OF THEM TOGETHER: one run of the array; their logs are one, legal by accounts that agree with the memory, which leaves such accounts, and
-- the record that the die tells has gained just it
pub record DoesAll {N : Type 0} (view : View N) (old : Device N) (calls : List Asked) (new : Device N) (log : List Operation) : Type 0 where
  pub array : ArrayRun old.engine.geometry (state_in view.flash old) (map command_asked calls) (map reply_asked calls) (state_in view.flash new)
  pub leads : Leads (view.flash old.engine.nand) log (view.flash new.engine.nand)
  pub records : Records (view.recorded old.engine.nand) log (view.recorded new.engine.nand)
  pub follows : FollowsLog old.engine.geometry.pages log (ram old.engine).blocks (ram new.engine).blocks
  pub next : new.engine.next ≡ old.engine.next + programs_in log
  pub wears : Wears log (ram old.engine).blocks (ram new.engine).blocks
  pub versions : AddsNoOld old.engine.geometry (image_in view.flash old.engine) (image_in view.flash new.engine)
  pub well : IsWell view.flash new

-- ---- laws

-- what was told is a list of calls
abbrev pub ToldAskedLaw : {N : Type 0} → (view : View N) → Type 0
ToldAskedLaw {N} view = (old new : Device N) (xs : List Exchange)
    → ToldEach view old xs new → AskedEach view old (map Told xs) new

-- AND CALLS AFTER CALLS ARE ONE LIST: so a run, a call of `migrate_one`, and a run
abbrev pub AskedJoinLaw : {N : Type 0} → (view : View N) → Type 0
AskedJoinLaw {N} view = (old mid new : Device N) (calls later : List Asked) → AskedEach view old calls mid
    → AskedEach view mid later new → AskedEach view old (calls ++ later) new

-- ONE RUN, WHATEVER WAS ASKED, of an honest die that gave every outcome
abbrev pub AskedRunLaw : {N : Type 0} → (view : View N) → Type 0
AskedRunLaw {N} view = (old new : Device N) (calls : List Asked) → view.honest old.engine.nand ≡ true → IsWell view.flash old → HaveOutcomes calls
    → AskedEach view old calls new
    → (each : DoesEach view old calls new) × DoesAll view old calls new (log_asked view old calls new each)

-- ALL IS BROUGHT FORWARD, where the die has room for version 2: once `migrate_one` has answered `false`, no newest page is of version 1 after any
-- calls among which a flush was done
abbrev pub AskedForwardLaw : {N : Type 0} → (view : View N) → Type 0
AskedForwardLaw {N} view = (old new : Device N) (calls : List Asked) → view.honest old.engine.nand ≡ true
    → IsWell view.flash old → 40 ≤ old.engine.geometry.spare_bytes → HaveOutcomes calls
    → AskedEach view old (Migrated (Ok false) ∷ calls) new → HaveFlushed calls → HasNoneOld (image_in view.flash new.engine)
