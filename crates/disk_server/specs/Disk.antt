-- A DEVICE AS SECTORS OF A DISK: whether it still holds its array, and the array as bytes.
use Rattle.std.specs.Prelude.{◌≡◌, ◌≢◌, ◌⊎◌, ◌≤◌, ◌+◌, ◌-◌, ◌*◌, ◌^◌, ◌==◌, ◌&&◌, not, ℕ, Bool, true, false, List, [], replicate, None, Result, Ok, Err, OnOk, OnErr, IsSome, if◌then◌else◌}
use Rattle.std.specs.Option.{is_none}
use Rattle.page_layout.specs.View.{View}
use Rattle.page_layout.specs.Array.{zeros}
use Rattle.page_layout.specs.DieCalls.{AsksOnly}
use Rattle.page_layout.specs.OnlyReads.{OnlyReads}
use Rattle.promises.specs.Step as step
use Rattle.promises.specs.Step.{Command, Flush, Turn}
use Rattle.mapping_cache.specs.Mapping.{HasLimitsOf}
use Rattle.allocation.specs.State.{free_count}
use Rattle.image_check.specs.Mountable.{IsMountable}
use Rattle.collection.specs.Stops.{room_of}
use Rattle.collection.specs.Room.{wanted}
use Rattle.collection.specs.declared.engine.room.Reserve.TheVariants as reserve
use Rattle.collection.specs.Collect.{HasAiling, HasNoneAiling}
use Rattle.collection.specs.Safe.{page_in_buffer, ram}
use Rattle.nbd_stream.specs.declared.fault.DiskFault.{DiskFault}
use Rattle.nbd_stream.specs.declared.fault.DiskFault.TheVariants as fault
use Rattle.nbd_stream.specs.declared.task.Task.TheVariants.{Read}
use Rattle.nbd_stream.specs.Disk.{Contents, PerformsTask, answer_from}
use Rattle.disk_server.specs.Flat.{flat}
use Rattle.ftl_device.specs.declared.device.Device.{Device}
use Rattle.ftl_device.specs.declared.fault.DeviceFault.{DeviceFault}
use Rattle.ftl_device.specs.declared.fault.DeviceFault.TheVariants.{OutOfRange, ReadOnly, SequenceSpent, OutOfMemory, Damaged, BusFault}
use Rattle.ftl_device.specs.Device.{IsDevice}
use Rattle.ftl_device.specs.Changes.{Changes, Upkeeps}
use Rattle.ftl_device.specs.Calls.{array_in, stop_of, HasFallen, HasRescued, HasWorked, IsQuiet, IsWell}
use Rattle.ftl_device.specs.Read.{LeavesRead}
use Rattle.ftl_device.specs.Turn.{HasTurned}

-- IT HOLDS ITS ARRAY: its die is honest, and no fault has stopped it
abbrev pub holds : {N : Type 0} → (honest : N → Bool) → Device N → Bool
holds honest d = honest d.engine.nand && is_none (stop_of d.engine.fault)

-- ITS SECTORS: the array that the image on its die holds. Of a device that holds it no more nothing is known, and as many sectors of zeros stand
-- for it.
abbrev pub sectors_of : {N : Type 0} → (view : View N) → Device N → List (List ℕ)
sectors_of view d = if holds view.honest d then array_in view.flash d else replicate d.engine.geometry.sectors (zeros d.engine.geometry)

-- between two calls a stop of the die leaves that array: so what will be there if it stops now is what is there
abbrev pub contents_of : {N : Type 0} → (view : View N) → Device N → Contents
contents_of view d = record { bytes = flat (sectors_of view d); durable = flat (sectors_of view d) }

-- whatever its die does; and what it knows of the image is so, as long as it holds the array
pub record IsDisk {N : Type 0} (view : View N) (d : Device N) : Type 0 where
  pub device : IsDevice view.flash d
  pub well : holds view.honest d ≡ true → IsWell view.flash d

-- IT STILL TAKES CHANGES: it is not read-only, and its last sequence is not given out
abbrev pub takes_changes : {N : Type 0} → Device N → Bool
takes_changes d = not d.read_only && not (d.engine.next == 2 ^ 64 - 1)

-- ---- answers

-- why a change was not made: no sequence is left for a change, as little as on a device that is read-only
abbrev pub change_fault : DeviceFault → DiskFault
change_fault OutOfRange = fault.Failed
change_fault (ReadOnly good wanted failed) = fault.ReadOnly
change_fault SequenceSpent = fault.ReadOnly
change_fault OutOfMemory = fault.NoSpace
change_fault Damaged = fault.Failed
change_fault BusFault = fault.Failed

abbrev pub change_answer : Result (Unit {0}) DeviceFault → Result (Unit {0}) DiskFault
change_answer (Ok done) = Ok done
change_answer (Err e) = Err (change_fault e)

-- a read fails, and says no more
abbrev pub read_answer : Result (Unit {0}) DeviceFault → Result (Unit {0}) DiskFault
read_answer (Ok done) = Ok done
read_answer (Err e) = Err fault.Failed

-- a device that takes no change any more has nothing to flush: all that it answered stands on its die
abbrev pub flush_answer : Result (Unit {0}) DeviceFault → Result (Unit {0}) DiskFault
flush_answer (Ok done) = Ok done
flush_answer (Err OutOfRange) = Err fault.Failed
flush_answer (Err (ReadOnly good wanted failed)) = Ok tt
flush_answer (Err SequenceSpent) = Ok tt
flush_answer (Err OutOfMemory) = Err fault.Failed
flush_answer (Err Damaged) = Err fault.Failed
flush_answer (Err BusFault) = Err fault.Failed

-- a rest fails just where the device is stopped: what else it refuses a turn for leaves it its array, and no client asked for the turn
abbrev pub rest_answer : Result (Unit {0}) DeviceFault → Result (Unit {0}) DiskFault
rest_answer (Ok done) = Ok done
rest_answer (Err OutOfRange) = Ok tt
rest_answer (Err (ReadOnly good wanted failed)) = Ok tt
rest_answer (Err SequenceSpent) = Ok tt
rest_answer (Err OutOfMemory) = Ok tt
rest_answer (Err Damaged) = Err fault.Failed
rest_answer (Err BusFault) = Err fault.Failed

-- ---- calls

-- A SECTOR IS SET WHOLE OR NOT AT ALL: where the call failed and the device holds its array, the bytes are as they were
abbrev pub KeepsOnError : {N : Type 0} → (view : View N) → Device N → Result (Unit {0}) DiskFault → Device N → Type 0
KeepsOnError view old result new = OnErr result (holds view.honest new ≡ true → contents_of view new ≡ contents_of view old)

-- IT IS ONE CALL OF THE DEVICE, whatever the die does: a change of a sector, with all that this says, and its answer as a disk's
pub record AsksChange {N : Type 0} (view : View N) (n : ℕ) (command : Command) (old : Device N) (result : Result (Unit {0}) DiskFault) (new : Device N) : Type 0 where
  pub answer : Result (Unit {0}) DeviceFault
  pub told : result ≡ change_answer answer
  pub changes : Changes view n command old answer new
  pub disk : IsDisk view new

-- A DIE IS LEFT AS IT WAS: it tells what it told, and mounts
pub record LeavesDie {N : Type 0} (view : View N) (old new : Device N) : Type 0 where
  pub die_same : view.flash new.engine.nand ≡ view.flash old.engine.nand
  pub told_same : view.recorded new.engine.nand ≡ view.recorded old.engine.nand
  pub mountable : room_of (ram old.engine) ≤ 65536
      → IsMountable old.engine.geometry (room_of (ram old.engine)) (view.flash new.engine.nand).image

-- or a read: its die is asked for reads, by calls of it alone, and programs and erases nothing; where the device holds its array before it and after it, the die is left as it was
pub record AsksRead {N : Type 0} (view : View N) (old new : Device N) : Type 0 where
  pub only_reads : OnlyReads view old.engine.nand new.engine.nand
  pub asked : AsksOnly view.called old.engine.nand new.engine.nand
  pub limits : HasLimitsOf old.engine.mapping new.engine.mapping
  pub disk : IsDisk view new
  pub back : holds view.honest new ≡ true → holds view.honest old ≡ true
  pub leaves : holds view.honest old ≡ true → holds view.honest new ≡ true → LeavesDie view old new

-- WHAT A READ ANSWERS, whatever the die does: it is done just where the device's is, and gives what the pages in its buffers say
pub record ReadsAsDevice {N : Type 0} (n : ℕ) (old : Device N) (result : Result (Unit {0}) DiskFault) (bytes : List ℕ) (new : Device N) : Type 0 where
  pub answer : Result (Unit {0}) DeviceFault
  pub told : result ≡ read_answer answer
  pub leaves : LeavesRead n answer (ram old.engine) (ram new.engine) (page_in_buffer new.engine.scratch) (page_in_buffer new.engine.page) bytes

-- or a sector to be cleared: a read of the device that gave zeros, and nothing else; or a read that did not, or failed, and then a trim
pub record AsksClear {N : Type 0} (view : View N) (n : ℕ) (old : Device N) (result : Result (Unit {0}) DiskFault) (new : Device N)
    : Type 0 where
  pub mid : Device N
  pub answer : Result (Unit {0}) DiskFault
  pub given : List ℕ
  pub read : PerformsTask (contents_of view) (holds view.honest) (λ d. false) (Read (n * old.engine.geometry.data_bytes) old.engine.geometry.data_bytes) [] old (answer_from answer given) mid
  pub asks : AsksRead view old mid
  pub answers : ReadsAsDevice n old answer given mid
  pub stopped : IsSome (stop_of old.engine.fault) → answer ≡ Err fault.Failed
  pub trims : ((answer ≡ Ok tt) × (given ≡ replicate old.engine.geometry.data_bytes 0) × (result ≡ Ok tt) × (new ≡ mid))
      ⊎ (((answer ≡ Ok tt → given ≢ replicate old.engine.geometry.data_bytes 0) × AsksChange view n (step.Trim n) mid result new))

-- SECTOR n IS SET: it is one change of the device, a write or a trim of that sector
abbrev pub SetsSector : {N : Type 0} → View N → (n : ℕ) → (old : Device N) → Result (Unit {0}) DiskFault → (new : Device N) → Type 0
SetsSector view n old result new = ((bytes : List ℕ) × AsksChange view n (step.Write n bytes) old result new) ⊎ AsksChange view n (step.Trim n) old result new

-- ONE CHANGE OF A SECTOR, of any sector: it is set, or cleared
unfoldable pub ChangesOne : {N : Type 0} → View N → (old : Device N) → Result (Unit {0}) DiskFault → (new : Device N) → Type 0
ChangesOne view old result new = (n : ℕ)
    × (((command : Command) × AsksChange view n command old result new) ⊎ AsksClear view n old result new)

-- or a flush
pub record AsksFlush {N : Type 0} (view : View N) (old : Device N) (result : Result (Unit {0}) DiskFault) (new : Device N) : Type 0 where
  pub answer : Result (Unit {0}) DeviceFault
  pub told : result ≡ flush_answer answer
  pub upkeeps : Upkeeps view Flush old answer new
  pub disk : IsDisk view new

-- or a turn, and where the device held its array, what the turn did
pub record AsksTurn {N : Type 0} (view : View N) (old : Device N) (result : Result (Unit {0}) DiskFault) (new : Device N) : Type 0 where
  pub answer : Result (Unit {0}) DeviceFault
  pub told : result ≡ rest_answer answer
  pub upkeeps : Upkeeps view Turn old answer new
  pub disk : IsDisk view new
  pub turned : OnOk answer (HasTurned (ram old.engine) (ram new.engine))
  pub idle : HasNoneAiling (ram old.engine).blocks → old.engine.pinned ≡ None → wanted reserve.Turn (ram old.engine) ≤ free_count (ram old.engine).blocks → OnOk answer (new.engine ≡ old.engine)
  pub quiet : holds view.honest old ≡ true → OnOk answer (IsQuiet view.erases old.engine new.engine)
  pub falls : holds view.honest old ≡ true → HasNoneAiling (ram old.engine).blocks → OnOk answer (HasFallen view old.engine new.engine)
  pub rescued : holds view.honest old ≡ true → OnOk answer (HasRescued (ram old.engine) (ram new.engine))
  pub worked : holds view.honest old ≡ true → HasAiling (ram old.engine).blocks
      → OnOk answer (HasWorked (ram old.engine) (ram new.engine) (view.erases old.engine.nand) (view.erases new.engine.nand))
