-- What the calls promise: each clause that `write` and `trim` share, or `flush` and `turn`, or the calls within them, stands here once.
use Rattle.std.specs.Prelude.{◌≡◌, ◌≢◌, ◌↔◌, ℕ, ◌-◌, ◌^◌, ◌<◌, ◌≤◌, true, false, List, [], None, IsSome, Result, Ok, Err, IfErr, OnOk, MatchResult}
use Rattle.std.specs.Option.{ForSome}
use Rattle.std.specs.Map.{keys_of}
use Rattle.page_layout.specs.View.{View}
use Rattle.page_layout.specs.DieCalls.{AsksOnly}
use Rattle.page_layout.specs.Counter.{HasRisen}
use Rattle.page_layout.specs.Flash.{Flash}
use Rattle.page_layout.specs.Geometry.{need_at}
use Rattle.page_layout.specs.Page.{Page}
use Rattle.page_layout.specs.declared.record.Kind.{Kind}
use Rattle.page_layout.specs.Version.{AddsNoOld}
use Rattle.bad_blocks.specs.Table.{good_count}
use Rattle.budget.specs.declared.stream.Stream.TheVariants.{Data}
use Rattle.mapping_cache.specs.Mapping.{HasLimitsOf, slot_of}
use Rattle.promises.specs.Step.{Command, ArrayStep}
use Rattle.promises.specs.Stop.{CutShort, ErasesDead}
use Rattle.image_check.specs.Stale.{is_stale}
use Rattle.image_check.specs.Mountable.{IsMountable}
use Rattle.collection.specs.declared.engine.Engine.{Engine}
use Rattle.collection.specs.declared.fault.EngineFault.{EngineFault}
use Rattle.collection.specs.declared.fault.EngineFault.TheVariants.{Bus}
use Rattle.collection.specs.State.{Ram}
use Rattle.collection.specs.Safe.{IsSafe, ram, image_in, page_in_buffer}
use Rattle.collection.specs.Left.{IsCalm}
use Rattle.collection.specs.Collect.{GoesOn, KeepsKeys}
use Rattle.collection.specs.Cost.{HasPut}
use Rattle.collection.specs.Settle.{HasSettled}
use Rattle.collection.specs.Log.{Went}
use Rattle.collection.specs.Results.{fault_after}
use Rattle.collection.specs.Stops.{room_of, Cuts, CutsSafely, IsPutByStop, StopsSafely}
use Rattle.ftl_device.specs.declared.device.Device.{Device}
use Rattle.ftl_device.specs.declared.fault.CallFault.{CallFault}
use Rattle.ftl_device.specs.declared.fault.CallFault.TheVariants as call
use Rattle.ftl_device.specs.declared.fault.DeviceFault.{DeviceFault}
use Rattle.ftl_device.specs.declared.fault.DeviceFault.TheVariants.{OutOfRange, ReadOnly, SequenceSpent, OutOfMemory, Damaged, BusFault}
use Rattle.ftl_device.specs.Calls.{state_in, reply_of, stop_of, IsWell, Says, TellsByMemory, CallTells, standing_after, IsMostRecent, HasMadeRoomAndPlace, HasCost, HasPageOf, IsLastOf, order_after, Knows, KeepsArray, ChangesOneSector, KeepsBad, CallRefused}
use Rattle.ftl_device.specs.Counts.{is_bad_by, is_flush, IsShownByRefusal, IsLeftReadOnly}
use Rattle.ftl_device.specs.Read.{IsLookedUp}
use Rattle.ftl_device.specs.Flush.{first_of, IsFlushedOut}
use Rattle.ftl_device.specs.Shortage.{HasFunds, CallRoomCosts, StepCounts}
use Rattle.ftl_device.specs.Stopped.{SurvivesCut, SurvivesStops}

-- ---- inside the device

-- WHAT STAYS OF A DIE that was asked, whatever it answers: whether it keeps its promises, and whether it is calm; its count of failures falls never
pub record StaysDie {N : Type 0} (view : View N) (old new : N) : Type 0 where
  pub honest_is : view.honest new ≡ view.honest old
  pub calm_is : view.calm new ≡ view.calm old
  pub asked : AsksOnly view.called old new
  pub failed_is : view.failed old ≤ view.failed new

-- WHERE THE ARRAY STAYS, if the die is honest: what is known of the image is so afterwards, or what the refusal says of it
abbrev pub EngineKeeps : {N : Type 0} → View N → Engine N → Result (Unit {0}) EngineFault → Engine N → Type 0
EngineKeeps view old result new = view.honest old.nand ≡ true → Knows (ram old) (image_in view.flash old)
    → MatchResult result
    (λ done. KeepsArray old.geometry (image_in view.flash old) (ram new) (image_in view.flash new))
    (λ fault. CallRefused old.geometry (image_in view.flash old) (ram new) (image_in view.flash new) (call.Engine fault))

-- the same of a call that may want memory too
abbrev pub CallKeeps : {N : Type 0} → View N → Engine N → Result (Unit {0}) CallFault → Engine N → Type 0
CallKeeps view old result new = view.honest old.nand ≡ true → Knows (ram old) (image_in view.flash old)
    → MatchResult result
    (λ done. KeepsArray old.geometry (image_in view.flash old) (ram new) (image_in view.flash new))
    (CallRefused old.geometry (image_in view.flash old) (ram new) (image_in view.flash new))

-- WHAT A CALL OF THE ENGINE LEAVES where no fault stood, whatever it answers: the fault that it answers stands from then on
pub record EngineLeaves {A N : Type 0} (view : View N) (old : Engine N)
    (result : Result A EngineFault) (new : Engine N) : Type 0 where
  pub safe : IsSafe view.flash new
  pub fault : new.fault ≡ fault_after None result
  pub geometry : new.geometry ≡ old.geometry
  pub die : StaysDie view old.nand new.nand
  pub rose : result ≡ Err Bus → HasRisen (view.failed old.nand) (view.failed new.nand)
  pub tells : TellsByMemory (ram old) (ram new) result
  pub went : view.honest old.nand ≡ true → result ≢ Err Bus → Went (ram old) (view.flash old.nand) (view.recorded old.nand) (ram new) (view.flash new.nand) (view.recorded new.nand)
  pub stops : view.honest old.nand ≡ true → Knows (ram old) (image_in view.flash old) → result ≢ Err Bus → StopsSafely view old new
  pub cut : view.honest old.nand ≡ true → Knows (ram old) (image_in view.flash old) → result ≡ Err Bus → CutsSafely view old new

-- AND WHERE THE CALL MAY WANT MEMORY TOO: how the part of a device's call ends that asks the die
pub record EndsCall {N : Type 0} (view : View N) (old : Engine N)
    (result : Result (Unit {0}) CallFault) (new : Engine N) : Type 0 where
  pub safe : IsSafe view.flash new
  pub fault : new.fault ≡ standing_after result
  pub geometry : new.geometry ≡ old.geometry
  pub die : StaysDie view old.nand new.nand
  pub rose : result ≡ Err (call.Engine Bus) → HasRisen (view.failed old.nand) (view.failed new.nand)
  pub limits : HasLimitsOf old.mapping new.mapping
  pub calm_memory : new.fault ≡ None → IsCalm (ram new)
  pub tells : CallTells (ram old) (ram new) result
  pub went : view.honest old.nand ≡ true → result ≢ Err (call.Engine Bus) → Went (ram old) (view.flash old.nand) (view.recorded old.nand) (ram new) (view.flash new.nand) (view.recorded new.nand)
  pub stops : view.honest old.nand ≡ true → Knows (ram old) (image_in view.flash old) → result ≢ Err (call.Engine Bus) → StopsSafely view old new

-- and of one that changes no sector: where the die is honest the array stays, also where a fault of the die ends it
pub record EndsKept {N : Type 0} (view : View N) (old : Engine N) (result : Result (Unit {0}) CallFault) (new : Engine N) : Type 0 where
  pub ends : EndsCall view old result new
  pub cut : view.honest old.nand ≡ true → Knows (ram old) (image_in view.flash old) → result ≡ Err (call.Engine Bus) → CutsSafely view old new
  pub truth : CallKeeps view old result new

-- where it was done, or memory was refused, no block is pinned that was not
abbrev pub PinsNone : {N : Type 0} → Result (Unit {0}) CallFault → Engine N → Engine N → Type 0
PinsNone (Ok done) old new = old.pinned ≡ None → new.pinned ≡ None
PinsNone (Err (call.Engine fault)) old new = Unit {0}
PinsNone (Err call.OutOfMemory) old new = old.pinned ≡ None → new.pinned ≡ None

-- and of one that makes a sector ready, and programs at most so many pages once there is room
pub record Readies {N : Type 0} (view : View N) (n pages : ℕ) (old : Engine N) (result : Result (Unit {0}) CallFault) (new : Engine N) : Type 0 where
  pub recent : OnOk result (IsMostRecent n new.mapping)
  pub keys : OnOk result (keys_of new.mapping.cached ≡ order_after old.mapping n)
  pub unwritten : result ≡ Err call.OutOfMemory → HasMadeRoomAndPlace n (ram old) (ram new)
  pub same_keys : result ≡ Err call.OutOfMemory → keys_of new.mapping.cached ≡ keys_of old.mapping.cached
  pub cached : IsSome (slot_of old.mapping n) → result ≢ Err call.OutOfMemory
  pub costs : CallRoomCosts (HasFunds (view.honest old.nand) (ram old) (image_in view.flash old)) pages (ram old) (ram new) result
  pub pins : PinsNone result old new

-- THE ROW THAT THE SECTOR HAD WAS LOOKED UP before a page of it was programmed: memory knew it once there was room, or else this page of
-- entries gives it, a sound translation page. Then its new row was set, and no other.
pub record HasLookedUp (n : ℕ) (old new : Ram) (entries_page : Page) : Type 0 where
  pub mid : Ram
  pub ready : HasMadeRoomAndPlace n old mid
  pub looked_up : IsLookedUp n old mid entries_page
  pub put : HasPut Data mid new
  pub settled : HasSettled n mid new

-- and of the whole of a write or a trim: a page of this kind is programmed with this data area, which the sector then holds
pub record EndsChange {N : Type 0} (view : View N) (kind : Kind) (n : ℕ) (body : List ℕ) (command : Command) (old : Engine N) (result : Result (Unit {0}) CallFault) (new : Engine N) : Type 0 where
  pub ends : EndsCall view old result new
  pub cut : view.honest old.nand ≡ true → Knows (ram old) (image_in view.flash old) → result ≡ Err (call.Engine Bus) → Cuts view (IsPutByStop kind n body (ram old) (image_in view.flash old)) old new
  pub readies : Readies view n 2 old result new
  pub cost : OnOk result (HasCost n (ram old) (ram new))
  pub checked : OnOk result (HasLookedUp n (ram old) (ram new) (page_in_buffer new.scratch))
  pub page : OnOk result (IsLastOf old.geometry command (ram new) (page_in_buffer new.page))
  pub newest : view.honest old.nand ≡ true → Knows (ram old) (image_in view.flash old) → OnOk result (HasPageOf old.geometry command (ram new) (image_in view.flash new))
  pub truth : view.honest old.nand ≡ true → Knows (ram old) (image_in view.flash old)
      → MatchResult result
      (λ done. ChangesOneSector old.geometry n body (image_in view.flash old) (ram new) (image_in view.flash new))
      (CallRefused old.geometry (image_in view.flash old) (ram new) (image_in view.flash new))

-- and of a step of a collection that a turn takes: bad blocks get no page; where the die is honest the array stays
pub record CollectsOn {N : Type 0} (view : View N)
    (old : Engine N) (result : Result (Unit {0}) EngineFault) (new : Engine N) : Type 0 where
  pub leaves : EngineLeaves view old result new
  pub limits : HasLimitsOf old.mapping new.mapping
  pub calm_memory : new.fault ≡ None → IsCalm (ram new)
  pub goes : GoesOn (ram old) (ram new)
  pub counts : StepCounts (ram old) (ram new) result
  pub risen : OnOk result ((before : ℕ) → HasRisen before (view.erases old.nand) → HasRisen before (view.erases new.nand))
  pub bad : view.honest old.nand ≡ true → Knows (ram old) (image_in view.flash old) → OnOk result (KeepsBad (ram old) (ram new))
  pub truth : EngineKeeps view old result new

-- and of a part of a flush: the cached sectors stay, and their order
pub record FlushesOn {N : Type 0} (view : View N)
    (old : Engine N) (result : Result (Unit {0}) EngineFault) (new : Engine N) : Type 0 where
  pub leaves : EngineLeaves view old result new
  pub keys : KeepsKeys old.mapping new.mapping
  pub calm : OnOk result (IsCalm (ram new))
  pub pins : OnOk result (old.pinned ≡ None → new.pinned ≡ None)
  pub truth : EngineKeeps view old result new

-- ---- whatever the die does

-- what every call leaves alone, and that it asks its die by calls of it alone
pub record Stays {N : Type 0} (view : View N) (old new : Device N) : Type 0 where
  pub limits : HasLimitsOf old.engine.mapping new.engine.mapping
  pub honest_is : view.honest new.engine.nand ≡ view.honest old.engine.nand
  pub calm_is : view.calm new.engine.nand ≡ view.calm old.engine.nand
  pub asked : AsksOnly view.called old.engine.nand new.engine.nand
  pub failed_is : view.failed old.engine.nand ≤ view.failed new.engine.nand

-- what a refusal tells of the memory, and what a device that was stopped or is read-only answers
pub record RefusesCall {N : Type 0} (failed : N → ℕ) (old : Device N) (result : Result (Unit {0}) DeviceFault) (new : Device N) : Type 0 where
  pub stopped : ForSome (stop_of old.engine.fault) (λ fault. (result ≡ Err fault) × (new ≡ old))
  pub closed : old.read_only ≡ true → new ≡ old
  pub says : IfErr result (Says (ram old.engine) (ram new.engine))
  pub rose : stop_of old.engine.fault ≡ None → result ≡ Err BusFault → HasRisen (failed old.engine.nand) (failed new.engine.nand)
  pub standing : ForSome (stop_of new.engine.fault) (λ fault. result ≡ Err fault)

-- when a device is not to be flushed, and not to have a turn: neither names a sector, and neither wants memory
pub record RefusesUpkeep {N : Type 0} (old : Device N) (result : Result (Unit {0}) DeviceFault) (new : Device N) : Type 0 where
  pub read_only : stop_of old.engine.fault ≡ None → old.read_only ≡ true → result ≡ Err (ReadOnly (good_count (ram old.engine).blocks.table) (need_at old.engine.geometry old.engine.mapping.share) 0)
  pub spent : stop_of old.engine.fault ≡ None → old.read_only ≡ false → old.engine.next ≡ 2 ^ 64 - 1 → (result ≡ Err SequenceSpent) × (new ≡ old)
  pub within : result ≢ Err OutOfRange
  pub memory : result ≢ Err OutOfMemory

-- when a sector is not to be changed
pub record RefusesSector {N : Type 0} (n : ℕ) (old : Device N) (result : Result (Unit {0}) DeviceFault) (new : Device N) : Type 0 where
  pub past : stop_of old.engine.fault ≡ None → (result ≡ Err OutOfRange) ↔ (old.engine.geometry.sectors ≤ n)
  pub untouched : result ≡ Err OutOfRange → new ≡ old
  pub read_only : stop_of old.engine.fault ≡ None → n < old.engine.geometry.sectors → old.read_only ≡ true
      → result ≡ Err (ReadOnly (good_count (ram old.engine).blocks.table) (need_at old.engine.geometry old.engine.mapping.share) 0)
  pub spent : stop_of old.engine.fault ≡ None → n < old.engine.geometry.sectors → old.read_only ≡ false → old.engine.next ≡ 2 ^ 64 - 1 → (result ≡ Err SequenceSpent) × (new ≡ old)
  pub cached : IsSome (slot_of old.engine.mapping n) → result ≢ Err OutOfMemory

-- what a change programs, by which row, and which sectors it leaves cached: the page of the sector is of the command's kind, and where the die is
-- honest it is the sector's newest
pub record ProgramsSector {N : Type 0} (view : View N) (n : ℕ) (command : Command) (old : Device N) (result : Result (Unit {0}) DeviceFault)
    (new : Device N) : Type 0 where
  pub recent : OnOk result (IsMostRecent n new.engine.mapping)
  pub keys : OnOk result (keys_of new.engine.mapping.cached ≡ order_after old.engine.mapping n)
  pub cost : OnOk result (HasCost n (ram old.engine) (ram new.engine))
  pub checked : OnOk result (HasLookedUp n (ram old.engine) (ram new.engine) (page_in_buffer new.engine.scratch))
  pub page : OnOk result (IsLastOf old.engine.geometry command (ram new.engine) (page_in_buffer new.engine.page))
  pub newest : view.honest old.engine.nand ≡ true → IsWell view.flash old → OnOk result (HasPageOf old.engine.geometry command (ram new.engine) (image_in view.flash new.engine))
  pub unwritten : result ≡ Err OutOfMemory → HasMadeRoomAndPlace n (ram old.engine) (ram new.engine)
  pub same_keys : result ≡ Err OutOfMemory → keys_of new.engine.mapping.cached ≡ keys_of old.engine.mapping.cached

-- AN ANSWER AFTER WHICH A COLLECTION MAY BE LEFT HALF DONE that was not under way: one after which the device changes no sector any more
abbrev pub MayPin : Result (Unit {0}) DeviceFault → Type 0
MayPin (Ok done) = ⊥
MayPin (Err OutOfRange) = ⊥
MayPin (Err (ReadOnly good wanted failed)) = Unit {0}
MayPin (Err SequenceSpent) = Unit {0}
MayPin (Err OutOfMemory) = ⊥
MayPin (Err Damaged) = Unit {0}
MayPin (Err BusFault) = Unit {0}

-- a call that pins no block: one is pinned after it only where one was before, or where it was stopped short
abbrev pub LeavesUnpinned : {N : Type 0} → Device N → Result (Unit {0}) DeviceFault → Device N → Type 0
LeavesUnpinned old result new = old.engine.pinned ≡ None → IsSome new.engine.pinned → MayPin result

-- ---- where the die is honest and gave every outcome

-- THE LOG OF A CALL, and what its answer says of that log
pub record Logs {N : Type 0} (view : View N) (command : Command) (old : Device N) (result : Result (Unit {0}) DeviceFault) (new : Device N) : Type 0 where
  pub went : Went (ram old.engine) (view.flash old.engine.nand) (view.recorded old.engine.nand) (ram new.engine) (view.flash new.engine.nand) (view.recorded new.engine.nand)
  pub shown : IsWell view.flash old → IfErr result (IsShownByRefusal old.engine.geometry old.engine.mapping.share (is_bad_by (ram old.engine)) old.engine.next [] went.log old.read_only (image_in view.flash new.engine))
  pub left : IsWell view.flash old → new.read_only ≡ true → IsLeftReadOnly command old.engine.geometry old.engine.mapping.share (is_bad_by (ram old.engine)) [] went.log old.read_only result
  pub flushed : IsWell view.flash old → is_flush command ≡ true → result ≡ Ok tt → IsFlushedOut (first_of (ram old.engine)) went.log (image_in view.flash new.engine)
  pub stopped : IsWell view.flash old
      → SurvivesStops old.engine.geometry (room_of (ram old.engine)) command result (image_in view.flash old.engine) (image_in view.flash new.engine) (view.recorded new.engine.nand) went.log
  pub dead : IsWell view.flash old → IsSome (view.recorded new.engine.nand) → ErasesDead old.engine.geometry.pages (image_in view.flash old.engine) went.log

-- what is true of the image after it: where the die has version 2, no newest page of version 1 is added
pub record Means {N : Type 0} (flash : N → Flash) (command : Command) (old : Device N) (result : Result (Unit {0}) DeviceFault) (new : Device N) : Type 0 where
  pub step : ArrayStep old.engine.geometry (state_in flash old) command (reply_of result) (state_in flash new)
  pub well : IsWell flash new
  pub versions : AddsNoOld old.engine.geometry (image_in flash old.engine) (image_in flash new.engine)
  pub mountable : room_of (ram old.engine) ≤ 65536 → IsMountable old.engine.geometry (room_of (ram old.engine)) (image_in flash new.engine)

-- A CALL THAT A FAULT OF THE DIE ENDED, where it had not stopped before: whatever the die is left with, as its record tells, holds the array from before, or of a write or a trim the one that it would have left
abbrev pub IsCallCut : {N : Type 0} → View N → Command → (old new : Device N) → Type 0
IsCallCut view command old new = CutShort (view.flash old.engine.nand) (view.recorded old.engine.nand) (view.recorded new.engine.nand)
    (SurvivesCut old.engine.geometry (room_of (ram old.engine)) command (image_in view.flash old.engine))

-- ---- the whole

-- A CALL THAT CHANGES A SECTOR
pub record Changes {N : Type 0} (view : View N) (n : ℕ) (command : Command) (old : Device N) (result : Result (Unit {0}) DeviceFault) (new : Device N) : Type 0 where
  pub stays : Stays view old new
  pub refuses : RefusesCall view.failed old result new
  pub refuses_sector : RefusesSector n old result new
  pub programs : ProgramsSector view n command old result new
  pub pins : LeavesUnpinned old result new
  pub logs : view.honest old.engine.nand ≡ true → result ≢ Err BusFault → Logs view command old result new
  pub cut : view.honest old.engine.nand ≡ true → IsWell view.flash old → stop_of old.engine.fault ≡ None → result ≡ Err BusFault → IsCallCut view command old new
  pub means : view.honest old.engine.nand ≡ true → IsWell view.flash old → result ≢ Err BusFault → Means view.flash command old result new
  pub stale : view.honest old.engine.nand ≡ true → IsWell view.flash old → old.engine.mapping.share ≡ 0 → old.engine.pinned ≡ None → is_stale old.engine.geometry (image_in view.flash old.engine) n ≡ true → result ≢ Err OutOfMemory

-- A CALL THAT CHANGES NO SECTOR: a flush, or a turn
pub record Upkeeps {N : Type 0} (view : View N) (command : Command) (old : Device N) (result : Result (Unit {0}) DeviceFault) (new : Device N) : Type 0 where
  pub stays : Stays view old new
  pub refuses : RefusesCall view.failed old result new
  pub refuses_upkeep : RefusesUpkeep old result new
  pub logs : view.honest old.engine.nand ≡ true → result ≢ Err BusFault → Logs view command old result new
  pub cut : view.honest old.engine.nand ≡ true → IsWell view.flash old → stop_of old.engine.fault ≡ None → result ≡ Err BusFault → IsCallCut view command old new
  pub means : view.honest old.engine.nand ≡ true → IsWell view.flash old → result ≢ Err BusFault → Means view.flash command old result new
