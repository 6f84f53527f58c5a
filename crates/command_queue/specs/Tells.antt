-- What a device was told: one call, and a chain of them.
use Rattle.std.specs.Prelude.{◌≡◌, ◌≢◌, ℕ, ◌+◌, ◌<◌, ◌≤◌, Bool, true, false, List, [], ◌∷◌, ◌++◌, is_some}
use Rattle.std.specs.Prelude.{None, Some, IsSome, Result, Ok, Err, IfErr, OnOk}
use Rattle.std.specs.Option.{ForSome}
use Rattle.std.specs.Map.{keys_of}
use Rattle.page_layout.specs.View.{View}
use Rattle.page_layout.specs.Counter.{HasRisen}
use Rattle.page_layout.specs.DieCalls.{AsksOnly}
use Rattle.page_layout.specs.Flash.{Flash, Operation}
use Rattle.page_layout.specs.OnlyReads.{OnlyReads}
use Rattle.page_layout.specs.Recording.{EndsAt}
use Rattle.page_layout.specs.Version.{AddsNoOld}
use Rattle.mapping_cache.specs.Mapping.{HasLimitsOf, known}
use Rattle.allocation.specs.State.{free_count}
use Rattle.image_check.specs.Mountable.{IsMountable}
use Rattle.promises.specs.Step as step
use Rattle.promises.specs.Step.{ArrayStep}
use Rattle.promises.specs.Log.{programs_in, bad_of}
use Rattle.promises.specs.Run.{DeviceView}
use Rattle.collection.specs.Looks.{FindsDamage}
use Rattle.collection.specs.Safe.{ram, image_in, page_in_buffer}
use Rattle.collection.specs.Collect.{HasAiling, HasNoneAiling}
use Rattle.collection.specs.declared.engine.room.Reserve.TheVariants as reserve
use Rattle.collection.specs.Room.{wanted}
use Rattle.collection.specs.Stops.{room_of}
use Rattle.collection.specs.Log.{Went}
use Rattle.ftl_device.specs.declared.device.Device.{Device}
use Rattle.ftl_device.specs.declared.fault.DeviceFault.{DeviceFault}
use Rattle.ftl_device.specs.declared.fault.DeviceFault.TheVariants.{OutOfRange, OutOfMemory, Damaged, BusFault}
use Rattle.ftl_device.specs.Device.{IsDevice}
use Rattle.ftl_device.specs.Calls.{state_in, stop_of, IsWell, HasRescued, HasWorked, HasFallen, IsQuiet}
use Rattle.ftl_device.specs.Changes.{Changes, Upkeeps, RefusesUpkeep, ProgramsSector, LeavesUnpinned}
use Rattle.ftl_device.specs.Flush.{first_of, IsFlushedOut}
use Rattle.ftl_device.specs.FlushSteps.{HasFlushed}
use Rattle.ftl_device.specs.Counts.{is_bad_by, is_flush, IsShownByRefusal, IsLeftReadOnly}
use Rattle.ftl_device.specs.Read.{LeavesRead, IsReadRefusal}
use Rattle.ftl_device.specs.Renewed.{Finishes}
use Rattle.ftl_device.specs.Stopped.{SurvivesStops}
use Rattle.ftl_device.specs.Turn.{HasTurned}
use Rattle.ftl_device.specs.Brings.{RescuesLowest}
use Rattle.command_queue.specs.Commands.{needs_no_memory, is_read, is_turn}
use Rattle.command_queue.specs.Exchanges.{Exchange, reply_in, StopsDevice}
use Rattle.command_queue.specs.Rescues.{Rescues, LeavesTwelve}

-- a device between two commands
abbrev pub die_in : {N : Type 0} → (N → Flash) → Device N → DeviceView
die_in flash d = record { flash = flash d.engine.nand; ro = d.read_only; pinned = is_some d.engine.pinned }

-- ---- one call

-- What was answered to a command is a step from the array before to the array after; one log leads from the one image to the other, and a
-- refusal shows what it says for every longer log that ends with it. A stop at any moment of it leaves either array. Where the die has version 2 no
-- newest page of version 1 is added.
pub record Happened {N : Type 0} (view : View N) (old : Device N) (x : Exchange) (new : Device N) : Type 0 where
  pub step : ArrayStep old.engine.geometry (state_in view.flash old) x.command (reply_in x) (state_in view.flash new)
  pub went : Went (ram old.engine) (view.flash old.engine.nand) (view.recorded old.engine.nand) (ram new.engine) (view.flash new.engine.nand) (view.recorded new.engine.nand)
  pub stale : needs_no_memory old.engine.mapping.share (is_some old.engine.pinned) old.engine.geometry (image_in view.flash old.engine) x.command ≡ true → x.result ≢ Err OutOfMemory
  pub shown : (bad : ℕ → Bool) (next : ℕ) (before : List Operation)
      → ((b : ℕ) → b < old.engine.geometry.blocks → is_bad_by (ram new.engine) b ≡ bad_of old.engine.geometry.pages bad (before ++ went.log) b)
      → new.engine.next ≡ next + programs_in (before ++ went.log)
      → IfErr x.result (IsShownByRefusal old.engine.geometry old.engine.mapping.share bad next before went.log old.read_only (image_in view.flash new.engine))
  pub left : (bad : ℕ → Bool) (before : List Operation)
      → ((b : ℕ) → b < old.engine.geometry.blocks → is_bad_by (ram new.engine) b ≡ bad_of old.engine.geometry.pages bad (before ++ went.log) b)
      → new.read_only ≡ true
      → IsLeftReadOnly x.command old.engine.geometry old.engine.mapping.share bad before went.log old.read_only x.result
  pub flushed : is_flush x.command ≡ true → x.result ≡ Ok tt → IsFlushedOut (first_of (ram old.engine)) went.log (image_in view.flash new.engine)
  pub reads : is_read x.command ≡ true → (went.log ≡ []) × (die_in view.flash new ≡ die_in view.flash old)
  pub rescues : is_turn x.command ≡ true → x.result ≡ Ok tt → Rescues old.engine.geometry (is_bad_by (ram old.engine)) went.log (image_in view.flash old.engine) (image_in view.flash new.engine)
  pub quiet : is_turn x.command ≡ true → x.result ≡ Ok tt → LeavesTwelve old.engine.geometry old.engine.mapping.share (is_bad_by (ram old.engine)) went.log (image_in view.flash new.engine)
  pub stopped : SurvivesStops old.engine.geometry (room_of (ram old.engine)) x.command x.result (image_in view.flash old.engine) (image_in view.flash new.engine) (view.recorded new.engine.nand) went.log
  pub versions : AddsNoOld old.engine.geometry (image_in view.flash old.engine) (image_in view.flash new.engine)

-- WHAT THE CONTRACT OF A TURN SAYS (`Device::turn`). It is refused by a device that is read-only or has no sequence. One that is done has made room,
-- and then rescued a page from a bad block, or gone on with a collection, or found nothing to do. Where the die is honest, it has
-- programmed or erased where a bad block held a newest page, and left fewer of them unless a block failed: it has rescued the one of lowest row, once
-- there was room; where none did, it has erased,
-- or left less of the collection, or changed nothing; and one that has neither programmed nor erased leaves twelve free blocks, where three more
-- are good than the geometry asks for.
pub record TakesTurn {N : Type 0} (view : View N) (old : Device N) (result : Result (Unit {0}) DeviceFault) (new : Device N) : Type 0 where
  pub refuses : RefusesUpkeep old result new
  pub turned : OnOk result (HasTurned (ram old.engine) (ram new.engine))
  pub rests : HasNoneAiling (ram old.engine).blocks → old.engine.pinned ≡ None → wanted reserve.Turn (ram old.engine) ≤ free_count (ram old.engine).blocks → OnOk result (new.engine ≡ old.engine)
  pub quiet : view.honest old.engine.nand ≡ true → IsWell view.flash old → OnOk result (IsQuiet view.erases old.engine new.engine)
  pub falls : view.honest old.engine.nand ≡ true → IsWell view.flash old → HasNoneAiling (ram old.engine).blocks → OnOk result (HasFallen view old.engine new.engine)
  pub rescued : view.honest old.engine.nand ≡ true → IsWell view.flash old → OnOk result (HasRescued (ram old.engine) (ram new.engine))
  pub lowest : view.honest old.engine.nand ≡ true → IsWell view.flash old → OnOk result (RescuesLowest view old.engine new.engine)
  pub worked : view.honest old.engine.nand ≡ true → IsWell view.flash old → HasAiling (ram old.engine).blocks
      → OnOk result (HasWorked (ram old.engine) (ram new.engine) (view.erases old.engine.nand) (view.erases new.engine.nand))

-- and where the command is one
abbrev pub TakesIfTurn : {N : Type 0} → View N → step.Command → Device N → Result (Unit {0}) DeviceFault → Device N → Type 0
TakesIfTurn view (step.Read sector) old result new = Unit {0}
TakesIfTurn view (step.Write sector body) old result new = Unit {0}
TakesIfTurn view (step.Trim sector) old result new = Unit {0}
TakesIfTurn view step.Flush old result new = Unit {0}
TakesIfTurn view step.Turn old result new = TakesTurn view old result new

-- WHAT A WRITE, A TRIM AND A FLUSH PROGRAM THAT ARE DONE (`Device::write`, `trim`, `flush`): room was made, and a page of the command's kind is the sector's
-- newest; or each translation page that lacked a row was written back, room was made, and the table pages were written
abbrev pub Programs : {N : Type 0} → View N → step.Command → Device N → Result (Unit {0}) DeviceFault → Device N → Type 0
Programs view (step.Read sector) old result new = Unit {0}
Programs view (step.Write sector body) old result new = ProgramsSector view sector (step.Write sector body) old result new
Programs view (step.Trim sector) old result new = ProgramsSector view sector (step.Trim sector) old result new
Programs view step.Flush old result new = OnOk result (HasFlushed view old.engine new.engine)
Programs view step.Turn old result new = Unit {0}

-- WHAT THE CONTRACT OF A READ SAYS (`Device::read`), whatever the die does: when it is refused, and that it only reads. One that is done gives the data
-- area of the sound page in the buffer, which is of the sector, or 00h bytes where there is no such row; one that is damaged was so by a page that was read for
-- it, and that still is in its buffer. Where the die is honest, what it holds mounts.
pub record TakesRead {N : Type 0} (view : View N) (sector : ℕ) (old : Device N) (result : Result (Unit {0}) DeviceFault) (bytes : List ℕ) (new : Device N) : Type 0 where
  pub past : stop_of old.engine.fault ≡ None → old.engine.geometry.sectors ≤ sector → (result ≡ Err OutOfRange) × (new ≡ old)
  pub within : sector < old.engine.geometry.sectors → result ≢ Err OutOfRange
  pub faults : IfErr result IsReadRefusal
  pub memory : LeavesRead sector result (ram old.engine) (ram new.engine) (page_in_buffer new.engine.scratch) (page_in_buffer new.engine.page) bytes
  pub damaged : stop_of old.engine.fault ≡ None → result ≡ Err Damaged → FindsDamage (ram old.engine) sector (page_in_buffer new.engine.scratch) (page_in_buffer new.engine.page)
  pub read_only : new.read_only ≡ old.read_only
  pub only_reads : OnlyReads view old.engine.nand new.engine.nand
  pub asked : AsksOnly view.called old.engine.nand new.engine.nand
  pub reads : view.reads new.engine.nand ≤ view.reads old.engine.nand + 2
  pub hit : IsSome (known old.engine.mapping sector) → view.reads new.engine.nand ≤ view.reads old.engine.nand + 1
  pub cut : view.honest old.engine.nand ≡ true → stop_of old.engine.fault ≡ None → result ≡ Err BusFault
      → EndsAt [] (view.recorded old.engine.nand) (view.recorded new.engine.nand)
  pub mountable : view.honest old.engine.nand ≡ true → IsWell view.flash old → result ≢ Err BusFault → room_of (ram old.engine) ≤ 65536
      → IsMountable old.engine.geometry (room_of (ram old.engine)) (image_in view.flash new.engine)

-- AND THAT OF A FLUSH (`Device::flush`): beside what an upkeep says, the cached sectors stay; where the die is honest, no table page of version 1 is left
pub record TakesFlush {N : Type 0} (view : View N) (old : Device N) (result : Result (Unit {0}) DeviceFault) (new : Device N) : Type 0 where
  pub upkeeps : Upkeeps view step.Flush old result new
  pub keys : keys_of new.engine.mapping.cached ≡ keys_of old.engine.mapping.cached
  pub renewed : view.honest old.engine.nand ≡ true → IsWell view.flash old
      → OnOk result (Finishes old.engine.geometry (image_in view.flash old.engine) (image_in view.flash new.engine))

-- WHAT THE CONTRACT OF EACH COMMAND SAYS, also over a die that lies: so no refusal is told of a command that was done, and no read that was refused is told as done
abbrev pub FulfilsCall : {N : Type 0} → View N → step.Command → Device N → Result (Unit {0}) DeviceFault → List ℕ → Device N → Type 0
FulfilsCall view (step.Read sector) old result bytes new = TakesRead view sector old result bytes new
FulfilsCall view (step.Write sector body) old result bytes new = Changes view sector (step.Write sector body) old result new
FulfilsCall view (step.Trim sector) old result bytes new = Changes view sector (step.Trim sector) old result new
FulfilsCall view step.Flush old result bytes new = TakesFlush view old result new
FulfilsCall view step.Turn old result bytes new = Upkeeps view step.Turn old result new

-- ONE CALL, as a run needs it: what holds whatever the die does, and then what is true of an honest die that gave every outcome.
pub record Tells {N : Type 0} (view : View N) (old : Device N) (x : Exchange) (new : Device N) : Type 0 where
  pub device : IsDevice view.flash new
  pub sized : new.engine.geometry ≡ old.engine.geometry
  pub limits : HasLimitsOf old.engine.mapping new.engine.mapping
  pub cursor : new.cursor ≡ old.cursor
  pub honest_is : view.honest new.engine.nand ≡ view.honest old.engine.nand
  pub failed_is : view.failed old.engine.nand ≤ view.failed new.engine.nand
  -- a stopped device answers its fault, and the fault that stopped it is the one that it answered
  pub stopped : ForSome (stop_of old.engine.fault) (λ fault. (x.result ≡ Err fault) × (new ≡ old))
  pub stops : IfErr x.result (λ fault. StopsDevice x.command fault → stop_of new.engine.fault ≡ Some fault)
  pub standing : ForSome (stop_of new.engine.fault) (λ fault. x.result ≡ Err fault)
  pub rose : stop_of old.engine.fault ≡ None → x.result ≡ Err BusFault → HasRisen (view.failed old.engine.nand) (view.failed new.engine.nand)
  pub well : view.honest old.engine.nand ≡ true → IsWell view.flash old → x.result ≢ Err BusFault → IsWell view.flash new
  pub happened : view.honest old.engine.nand ≡ true → IsWell view.flash old → x.result ≢ Err BusFault → Happened view old x new
  pub turned : TakesIfTurn view x.command old x.result new
  pub programs : Programs view x.command old x.result new
  pub fulfils : FulfilsCall view x.command old x.result x.bytes new
  -- only a turn begins a collection that goes on after it, unless the call was stopped short
  pub pins : is_turn x.command ≡ false → LeavesUnpinned old x.result new

-- EACH CALL DID WHAT IT PROMISES, from a device to the next: a chain of devices, from the one to the other
abbrev pub ToldEach : {N : Type 0} → (view : View N) → Device N → List Exchange → Device N → Type 0
ToldEach view old [] new = new ≡ old
ToldEach {N} view old (x ∷ xs) new = (mid : Device N) × Tells view old x mid × ToldEach view mid xs new

-- ---- laws

-- WHAT IS PROGRAMMED IS TOLD, of a flush, a write and a trim that are done
abbrev pub ToldProgramsLaw : {N : Type 0} → (view : View N) → Type 0
ToldProgramsLaw {N} view = (old new : Device N) (x : Exchange) → Tells view old x new → x.result ≡ Ok tt
    → (x.command ≡ step.Flush → HasFlushed view old.engine new.engine)
    × ((n : ℕ) (bytes : List ℕ) → x.command ≡ step.Write n bytes → ProgramsSector view n (step.Write n bytes) old (Ok tt) new)
    × ((n : ℕ) → x.command ≡ step.Trim n → ProgramsSector view n (step.Trim n) old (Ok tt) new)
