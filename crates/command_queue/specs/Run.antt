-- A RUN OF A DEVICE: commands that it is told one after another, what it answered to each, and what its die held after each.
use Rattle.std.specs.Prelude.{◌≡◌, ◌≢◌, ◌⊎◌, ℕ, ◌+◌, ◌≤◌, true, false, List, [], ◌∷◌, ◌++◌}
use Rattle.std.specs.Prelude.{Ok, Err}
use Rattle.page_layout.specs.View.{View}
use Rattle.page_layout.specs.declared.geometry.Geometry.{Geometry}
use Rattle.page_layout.specs.Flash.{Flash, Operation}
use Rattle.page_layout.specs.Version.{AddsNoOld}
use Rattle.certificate.specs.Claim.{Claim}
use Rattle.image_check.specs.Mountable.{IsMountable}
use Rattle.image_check.specs.Stale.{stale_sectors}
use Rattle.promises.specs.Log.{programs_in, bad_of}
use Rattle.promises.specs.Legal.{IsLegal, accounts_of}
use Rattle.promises.specs.Run as runs
use Rattle.promises.specs.Run.{Event, Run, commands_of, replies_of, log_of}
use Rattle.collection.specs.Safe.{ram}
use Rattle.collection.specs.Log.{IsAccounted, FollowsLog, Wears}
use Rattle.ftl_device.specs.declared.device.Device.{Device}
use Rattle.ftl_device.specs.declared.fault.DeviceFault.{DeviceFault}
use Rattle.ftl_device.specs.declared.fault.DeviceFault.TheVariants.{OutOfMemory}
use Rattle.ftl_device.specs.Begin.{begun_ram, is_bad_in, certified_wear, free_in, is_scarce}
use Rattle.ftl_device.specs.Flush.{First, first_of, room_in, IsFlushedOut}
use Rattle.ftl_device.specs.Counts.{is_flush, IsShownByRefusal, IsLeftReadOnly}
use Rattle.ftl_device.specs.Changes.{MayPin}
use Rattle.ftl_device.specs.Stopped.{SurvivesStops}
use Rattle.command_queue.specs.Commands.{needs_no_memory, is_read, is_turn}
use Rattle.command_queue.specs.Exchanges.{Exchange, commands_in, replies_in}
use Rattle.command_queue.specs.Rescues.{Rescues, LeavesTwelve}
use Rattle.command_queue.specs.Tells.{die_in, Happened, Tells}

-- What is so of each event, where `before` is the log up to it. `ReadOnly` comes in a shortage, with fewer than five free blocks, and has its
-- counts, and `SequenceSpent` the last sequence, by the image and the one log; a call that leaves the device read-only does so in a shortage,
-- or is a flush in which two blocks failed; a command that changes no sector took no memory, and with share 0 so did one whose sector was stale in the image while no block was pinned; and afterwards
-- the image has a certificate. A read programs and erases nothing and leaves the device as it was, and a turn that is done rescues pages from
-- bad blocks, and leaves twelve free, and those of a flush, where it does nothing and enough are good. A block is pinned afterwards only where one was before, by a turn, or by a call after which no sector is changed any more. And
-- where the die tells a record as the event ends, a stop at any moment in it leaves an image that mounts, with the array before it or, of a
-- write or trim that is done, the one after it: so whatever was answered stays. Where the die has version 2 no newest page of version 1 is added.
pub record IsFair (first : First) (old : runs.DeviceView) (before : List Operation) (event : Event) (x : Exchange) : Type 0 where
  pub shown : (fault : DeviceFault) → x.result ≡ Err fault → IsShownByRefusal first.geometry first.share first.bad first.next before event.piece old.ro event.left.flash.image fault
  pub left : event.left.ro ≡ true → IsLeftReadOnly x.command first.geometry first.share first.bad before event.piece old.ro x.result
  pub stale : needs_no_memory first.share old.pinned first.geometry old.flash.image x.command ≡ true → x.result ≢ Err OutOfMemory
  pub flushed : is_flush x.command ≡ true → x.result ≡ Ok tt → IsFlushedOut first (before ++ event.piece) event.left.flash.image
  pub mountable : room_in first ≤ 65536 → IsMountable first.geometry (room_in first) event.left.flash.image
  pub reads : is_read x.command ≡ true → (event.piece ≡ []) × (event.left ≡ old)
  pub rescues : is_turn x.command ≡ true → x.result ≡ Ok tt → Rescues first.geometry (bad_of first.geometry.pages first.bad before) event.piece old.flash.image event.left.flash.image
  pub quiet : is_turn x.command ≡ true → x.result ≡ Ok tt → LeavesTwelve first.geometry first.share (bad_of first.geometry.pages first.bad before) event.piece event.left.flash.image
  pub pins : old.pinned ≡ false → event.left.pinned ≡ true → (is_turn x.command ≡ true) ⊎ MayPin x.result
  pub stopped : SurvivesStops first.geometry (room_in first) x.command x.result old.flash.image event.left.flash.image event.told event.piece
  pub versions : AddsNoOld first.geometry old.flash.image event.left.flash.image

-- and so of all of them, each with the log up to it
abbrev pub AreFair : First → runs.DeviceView → List Operation → List Event → List Exchange → Type 0
AreFair first old before [] [] = Unit {0}
AreFair first old before [] (x ∷ xs) = ⊥
AreFair first old before (event ∷ events) [] = ⊥
AreFair first old before (event ∷ events) (x ∷ xs) = IsFair first old before event x × AreFair first event.left (before ++ event.piece) events xs

-- THE RUN: its commands are those that were told, its replies those that were answered; each piece of the log leads from one image to the
-- next, each reply is a step from the one array to the next, and each event is fair.
pub record HasRun (first : First) (old new : runs.DeviceView) (xs : List Exchange) : Type 0 where
  pub events : List Event
  pub commands : commands_of events ≡ commands_in xs
  pub replies : replies_of events ≡ replies_in xs
  pub run : Run old events new
  pub fair : AreFair first old [] events xs

-- AN EVENT IS A CALL: it has the log of what one call did, from a device to the next, leaves the die of that device, and tells what that die tells
pub record IsEventOf {N : Type 0} (view : View N) (old : Device N)
    (event : Event) (x : Exchange) (new : Device N) : Type 0 where
  pub tells : Tells view old x new
  pub happened : Happened view old x new
  pub piece : event.piece ≡ happened.went.log
  pub left : event.left ≡ die_in view.flash new
  pub told : event.told ≡ view.recorded new.engine.nand

-- THE EVENTS ARE THE CALLS, one after another, from the one device to the other
abbrev pub HappensEach : {N : Type 0} → (view : View N) → Device N → List Event → List Exchange → Device N → Type 0
HappensEach view old [] [] new = new ≡ old
HappensEach view old [] (x ∷ xs) new = ⊥
HappensEach view old (event ∷ events) [] new = ⊥
HappensEach {N} view old (event ∷ events) (x ∷ xs) new = (mid : Device N) × IsEventOf view old event x mid × HappensEach view mid events xs new

-- a run from a device as it is: its events are its calls, its log is legal by accounts that agree with the memory, it leaves such accounts, and
-- each program in it took the next sequence
pub record Ran {N : Type 0} (view : View N) (old : Device N) (xs : List Exchange) (new : Device N) : Type 0 where
  pub run : HasRun (first_of (ram old.engine)) (die_in view.flash old) (die_in view.flash new) xs
  pub each : HappensEach view old run.events xs new
  pub follows : FollowsLog old.engine.geometry.pages (log_of run.events) (ram old.engine).blocks (ram new.engine).blocks
  pub next : new.engine.next ≡ old.engine.next + programs_in (log_of run.events)
  pub wears : Wears (log_of run.events) (ram old.engine).blocks (ram new.engine).blocks

-- a run from an accepted certificate: it begins with the image that was accepted, read-only just where fewer than five blocks are free in
-- it; the log is legal for that image and the certificate's bad blocks
abbrev pub accepted_first : Geometry → (share : ℕ) → Claim → First
accepted_first g share c = record { geometry = g; capacity = c.capacity; share = share; bad = is_bad_in c; wear = certified_wear c; next = c.next }

abbrev pub accepted_device : Flash → Claim → runs.DeviceView
accepted_device s c = record { flash = s; ro = is_scarce (free_in s.geometry c s.image); pinned = false }

-- It is a run from a device that `start_at` begins over this die, at this share: nothing is pinned. The accounts of the accepted image are those of its memory, and the log
-- leads them to those of the memory as it ends; so a later run of the same device (`Ran`) goes on with one legal log.
pub record RanFrom {N : Type 0} (view : View N) (s : Flash) (share : ℕ)
    (c : Claim) (xs : List Exchange) (new : Device N) : Type 0 where
  pub first : Device N
  pub held : view.flash first.engine.nand ≡ s
  pub begun : ram first.engine ≡ begun_ram s.geometry share c (stale_sectors s.geometry s.image)
  pub run : HasRun (accepted_first s.geometry share c) (accepted_device s c) (die_in view.flash new) xs
  pub each : HappensEach view first run.events xs new
  pub legal : IsLegal s.geometry s.image (is_bad_in c) (log_of run.events)
  pub accounted : IsAccounted (accounts_of s.geometry s.image (is_bad_in c)) (ram first.engine).blocks
  pub follows : FollowsLog s.geometry.pages (log_of run.events) (ram first.engine).blocks (ram new.engine).blocks
  pub next : new.engine.next ≡ c.next + programs_in (log_of run.events)
  pub wears : Wears (log_of run.events) (ram first.engine).blocks (ram new.engine).blocks
