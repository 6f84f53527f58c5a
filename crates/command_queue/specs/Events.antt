-- WHAT THE EVENTS OF A RUN SAY of the calls that they are: of the record that the die tells, of a stop in a call, and of memory.
use Rattle.std.specs.Prelude.{◌≡◌, ◌≢◌, ◌⊎◌, ℕ, ◌+◌, ◌-◌, ◌^◌, ◌<◌, ◌≤◌, true, false, List, [], ◌∷◌, ◌++◌, Some, IsSome, Ok, Err}
use Rattle.page_layout.specs.View.{View}
use Rattle.page_layout.specs.declared.geometry.Geometry.{Geometry}
use Rattle.page_layout.specs.Page.{Image}
use Rattle.page_layout.specs.Array.{array_of}
use Rattle.page_layout.specs.Geometry.{need_at}
use Rattle.page_layout.specs.Sound.{version_for}
use Rattle.page_layout.specs.Version.{old_pages}
use Rattle.page_layout.specs.Flash.{Operation}
use Rattle.page_layout.specs.Recording.{Recording, Records}
use Rattle.promises.specs.Step as step
use Rattle.promises.specs.Log.{programs_in, good_count_after, free_count_after, failed_count, IsShort}
use Rattle.promises.specs.Stop.{MayLeave}
use Rattle.promises.specs.Run as runs
use Rattle.promises.specs.Run.{Event, log_of}
use Rattle.image_check.specs.Mountable.{IsMountable}
use Rattle.image_check.specs.Stale.{is_stale, stale_sectors}
use Rattle.collection.specs.Safe.{image_in}
use Rattle.ftl_device.specs.declared.device.Device.{Device}
use Rattle.ftl_device.specs.declared.fault.DeviceFault.TheVariants.{ReadOnly, SequenceSpent, OutOfMemory, Damaged}
use Rattle.ftl_device.specs.Counts.{is_flush}
use Rattle.ftl_device.specs.Flush.{First, room_in}
use Rattle.ftl_device.specs.Stopped.{changes_sector}
use Rattle.command_queue.specs.Commands.{is_read, is_turn}
use Rattle.command_queue.specs.Exchanges.{Exchange}
use Rattle.command_queue.specs.Tells.{die_in}
use Rattle.command_queue.specs.Run.{IsFair, AreFair, IsEventOf, HappensEach}

-- each image that a stop in the call may leave holds the array before the call or the one after it
abbrev pub LeavesEither : Geometry → (piece : List Operation) → (before after : Image) → Type 0
LeavesEither g piece before after = (left : Image) → MayLeave g before piece left → (array_of g left ≡ array_of g before) ⊎ (array_of g left ≡ array_of g after)

-- so of each of these calls after which the die tells a record
abbrev pub EachLeavesEither : {N : Type 0} → (view : View N) → Geometry
    → (old : Device N) → (events : List Event) → (xs : List Exchange) → (new : Device N) → HappensEach view old events xs new → Type 0
EachLeavesEither view g old [] [] new each = Unit {0}
EachLeavesEither view g old [] (x ∷ xs) new each = ⊥
EachLeavesEither view g old (event ∷ events) [] new each = ⊥
EachLeavesEither view g old (event ∷ events) (x ∷ xs) new each =
    (IsSome (view.recorded each.0.engine.nand) → LeavesEither g event.piece (image_in view.flash old.engine) (image_in view.flash each.0.engine))
    × EachLeavesEither view g each.0 events xs new each.2

-- ---- laws

-- AN EVENT TELLS THE RECORD that the die of its device tells
abbrev pub EventTellsLaw : {N : Type 0} → (view : View N) → Type 0
EventTellsLaw {N} view = (old new : Device N) (event : Event) (x : Exchange) (r : Recording)
    → IsEventOf view old event x new → view.recorded new.engine.nand ≡ Some r → event.told ≡ Some r

-- A STOP IN ANY CALL OF A RUN, after which the die tells a record, leaves the array before the call or the one after it
abbrev pub RunStopsLaw : {N : Type 0} → (view : View N) → Type 0
RunStopsLaw {N} view = (first : First) (old new : Device N) (before : List Operation) (events : List Event) (xs : List Exchange)
    → (each : HappensEach view old events xs new) → AreFair first (die_in view.flash old) before events xs
    → EachLeavesEither view first.geometry old events xs new each

-- THE RECORD OF A RUN has gained just the log of its events, unless it has ended
abbrev pub RunRecordsLaw : {N : Type 0} → (view : View N) → Type 0
RunRecordsLaw {N} view = (old new : Device N) (events : List Event) (xs : List Exchange)
    → HappensEach view old events xs new → Records (view.recorded old.engine.nand) (log_of events) (view.recorded new.engine.nand)

-- WITH SHARE 0 A WRITE OR A TRIM OF A SECTOR THAT IS STALE, while no block is pinned, is never answered `OutOfMemory`
abbrev pub StaleMemoryLaw : Type 0
StaleMemoryLaw = (first : First) (old : runs.DeviceView) (before : List Operation) (event : Event) (x : Exchange) (sector : ℕ) (body : List ℕ) → IsFair first old before event x
    → first.share ≡ 0 → old.pinned ≡ false → is_stale first.geometry old.flash.image sector ≡ true → (x.command ≡ step.Write sector body) ⊎ (x.command ≡ step.Trim sector)
    → x.result ≢ Err OutOfMemory

-- nor is a command that changes no sector, pinned or not
abbrev pub QuietMemoryLaw : Type 0
QuietMemoryLaw = (first : First) (old : runs.DeviceView) (before : List Operation) (event : Event) (x : Exchange) → IsFair first old before event x
    → changes_sector x.command ≡ false → x.result ≢ Err OutOfMemory

-- ---- what is fair, each part of it

-- `ReadOnly` comes in a shortage, with fewer than five blocks free after the call, and has its counts: how many blocks are good, how many the geometry
-- asks for, and how many failed in the call
abbrev pub ReadOnlyEventLaw : Type 0
ReadOnlyEventLaw = (first : First) (old : runs.DeviceView) (before : List Operation) (event : Event) (x : Exchange) (good wanted failed : ℕ) → IsFair first old before event x
    → x.result ≡ Err (ReadOnly good wanted failed) → (free_count_after first.geometry first.bad (before ++ event.piece) event.left.flash.image < 5)
    × (good ≡ good_count_after first.geometry first.bad (before ++ event.piece)) × (wanted ≡ need_at first.geometry first.share) × (failed ≡ failed_count first.geometry event.piece)
    × IsShort first.geometry first.share first.bad before event.piece old.ro

-- `SequenceSpent` comes with the last sequence given out, and `Damaged` never
abbrev pub SpentEventLaw : Type 0
SpentEventLaw = (first : First) (old : runs.DeviceView) (before : List Operation) (event : Event) (x : Exchange) → IsFair first old before event x
    → (x.result ≡ Err SequenceSpent → first.next + programs_in (before ++ event.piece) ≡ 2 ^ 64 - 1) × (x.result ≢ Err Damaged)

-- a call that is done leaves the device read-only in a shortage alone, or where it is a flush in which two blocks failed
abbrev pub LeftEventLaw : Type 0
LeftEventLaw = (first : First) (old : runs.DeviceView) (before : List Operation) (event : Event) (x : Exchange) → IsFair first old before event x
    → x.result ≡ Ok tt → event.left.ro ≡ true
    → IsShort first.geometry first.share first.bad before event.piece old.ro ⊎ ((is_flush x.command ≡ true) × (1 < failed_count first.geometry event.piece))

-- a flush that is done leaves no sector stale
abbrev pub FlushEventLaw : Type 0
FlushEventLaw = (first : First) (old : runs.DeviceView) (before : List Operation) (event : Event) (x : Exchange) → IsFair first old before event x
    → is_flush x.command ≡ true → x.result ≡ Ok tt → stale_sectors first.geometry event.left.flash.image ≡ []

-- a read programs and erases nothing, and leaves the device as it was
abbrev pub ReadEventLaw : Type 0
ReadEventLaw = (first : First) (old : runs.DeviceView) (before : List Operation) (event : Event) (x : Exchange) → IsFair first old before event x
    → is_read x.command ≡ true → (event.piece ≡ []) × (event.left ≡ old)

-- of the calls that are done only a turn leaves a block pinned where none was
abbrev pub PinEventLaw : Type 0
PinEventLaw = (first : First) (old : runs.DeviceView) (before : List Operation) (event : Event) (x : Exchange) → IsFair first old before event x
    → old.pinned ≡ false → x.result ≡ Ok tt → event.left.pinned ≡ true → is_turn x.command ≡ true

-- after each call the image has a certificate, and where the die has version 2 it has no more newest pages of version 1 than before
abbrev pub ImageEventLaw : Type 0
ImageEventLaw = (first : First) (old : runs.DeviceView) (before : List Operation) (event : Event) (x : Exchange) → IsFair first old before event x
    → (room_in first ≤ 65536 → IsMountable first.geometry (room_in first) event.left.flash.image)
    × (version_for first.geometry ≡ 2 → old_pages first.geometry event.left.flash.image ≤ old_pages first.geometry old.flash.image)
