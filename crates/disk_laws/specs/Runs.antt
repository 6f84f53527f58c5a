-- CALLS OF A DEVICE ONE AFTER ANOTHER, and what is found of its disk where they are cut short.
use Rattle.std.specs.Prelude.{◌≡◌, ◌⊎◌, ◌+◌, ◌<◌, ◌≤◌, ℕ, suc, true, List, [], ◌++◌, IsSome, Result, refl}
use Rattle.page_layout.specs.View.{View}
use Rattle.page_layout.specs.Page.{Image}
use Rattle.page_layout.specs.Array.{sector_of, HasOneArray}
use Rattle.page_layout.specs.Flash.{Operation}
use Rattle.page_layout.specs.Recording.{Records}
use Rattle.promises.specs.Stop.{MayLeave}
use Rattle.image_check.specs.Mountable.{IsMountable}
use Rattle.image_check.specs.Stale.{stale_count}
use Rattle.image_laws.specs.Power.{LosesSince}
use Rattle.nbd_stream.specs.declared.fault.DiskFault.{DiskFault}
use Rattle.nbd_stream.specs.Through.{Through, Times}
use Rattle.collection.specs.Safe.{ram}
use Rattle.collection.specs.Stops.{room_of}
use Rattle.ftl_device.specs.declared.device.Device.{Device}
use Rattle.disk_server.specs.Asked.{AsksCall}
use Rattle.disk_server.specs.Disk.{AsksFlush, AsksRead, AsksTurn, ChangesOne, IsDisk, holds}
use Rattle.disk_laws.specs.Killed.{HoldsThrough, MountsFor, bytes_found}
use Rattle.disk_laws.specs.Lost.{MayLose}

-- the image on the die of a device
abbrev pub image_on : {N : Type 0} → View N → Device N → Image
image_on die d = (die.flash d.engine.nand).image

-- WHAT IS ASKED OF A DEVICE OF SECTORS by who serves it as a disk, by its words: a read or a change of a sector, a flush, or a rest
abbrev pub AsksOneOf : {S : Type 0} → (reads : S → S → Type 0) → (changes flushes rests : S → Result (Unit {0}) DiskFault → S → Type 0) → (old new : S) → Type 0
AsksOneOf reads changes flushes rests old new = AsksCall reads changes flushes old new ⊎ ((result : Result (Unit {0}) DiskFault) × rests old result new)

-- ONE CALL of the block device: a read, a change of a sector (it is set; or cleared, by a read and, where that did not give zeros, a trim), a flush, or a turn
abbrev pub IsDiskCall : {N : Type 0} → View N → Device N → Device N → Type 0
IsDiskCall die = AsksOneOf (AsksRead die) (ChangesOne die)
    (AsksFlush die) (AsksTurn die)

-- one call of a device that holds its array through it, and the operations that the record of its die gained in it
pub record IsRecordedCall {N : Type 0} (die : View N) (old : Device N) (log : List Operation) (new : Device N) : Type 0 where
  pub through : HoldsThrough die old new
  pub asks : IsDiskCall die old new
  pub told : IsSome (die.recorded new.engine.nand)
  pub records : Records (die.recorded old.engine.nand) log (die.recorded new.engine.nand)

-- CALLS ONE AFTER ANOTHER, with the operations of all of them
pub data DeviceCalls {N : Type 0} (die : View N) (old : Device N) : List Operation → Device N → Type 0 where
  NoCall : DeviceCalls die old [] old
  OneMore : (before : List Operation) (mid : Device N) (log : List Operation) (new : Device N) → DeviceCalls die old before mid → IsRecordedCall die mid log new → DeviceCalls die old (before ++ log) new

-- THE CALLS THAT THESE ARE, without what is known of each: which one asked what, of which sector, and how many there are
unfoldable pub calls_of : {N : Type 0} → (die : View N) → (old : Device N) → (log : List Operation) → (new : Device N) → DeviceCalls die old log new → Through (IsDiskCall die) old new
unfolding Times
calls_of die old log new NoCall = (0, refl)
calls_of die old log new (OneMore before mid more last run does) = (suc (calls_of die old before mid run).0, (mid, (calls_of die old before mid run).1, does.asks))

-- no call was made
abbrev pub HasNoCall : {N : Type 0} → (die : View N) → (old : Device N) → (log : List Operation) → (new : Device N) → DeviceCalls die old log new → Type 0
HasNoCall die old log new NoCall = Unit {0}
HasNoCall die old log new (OneMore before mid more last run does) = ⊥

-- ONE CALL IS CUT SHORT, where these pages are found: its operations may leave them of the pages from before it, each call before it was whole and none behind it was begun; they mount, and the bytes of the disk are those
-- from before it, or from after it
pub record CutInCall {N : Type 0} (die : View N) (old first : Device N) (log : List Operation) (next : Device N) (found : Image) : Type 0 where
  pub cut : MayLeave old.engine.geometry (image_on die first) log found
  pub whole : (bytes_found old found ≡ bytes_found old (image_on die first)) ⊎ (bytes_found old found ≡ bytes_found old (image_on die next))
  pub mounts : MountsFor old found

-- A MOMENT INSIDE ONE OF THE CALLS
abbrev pub IsCutIn : {N : Type 0} → (die : View N) → (old : Device N) → (log : List Operation) → (new : Device N) → DeviceCalls die old log new → (found : Image) → Type 0
IsCutIn die old log new NoCall found = ⊥
IsCutIn die old log new (OneMore before mid more last run does) found = IsCutIn die old before mid run found ⊎ CutInCall die old mid more last found

-- a sector has these bytes in a disk on the way: before the calls, or after one of them
abbrev pub HasOnTheWay : {N : Type 0} → (die : View N) → (old : Device N) → (log : List Operation) → (new : Device N) → DeviceCalls die old log new → (n : ℕ) → (bytes : List ℕ) → Type 0
HasOnTheWay die old log new NoCall n bytes = bytes ≡ sector_of old.engine.geometry (image_on die old) n
HasOnTheWay die old log new (OneMore before mid more last run does) n bytes = HasOnTheWay die old before mid run n bytes ⊎ (bytes ≡ sector_of old.engine.geometry (image_on die last) n)

-- WHAT IS FOUND AFTER A LOSS OF POWER is one array, each sector has the bytes that it had on the way, and it mounts with each cache that has room for what is stale
pub record IsFoundAfterLoss {N : Type 0} (die : View N) (old : Device N) (log : List Operation) (new : Device N) (run : DeviceCalls die old log new) (found : Image) : Type 0 where
  pub one : HasOneArray old.engine.geometry found
  pub mounts : (capacity : ℕ) → 1 ≤ capacity → capacity ≤ 65536 → stale_count old.engine.geometry found ≤ capacity → IsMountable old.engine.geometry capacity found
  pub sectors : (n : ℕ) → n < old.engine.geometry.sectors → HasOnTheWay die old log new run n (sector_of old.engine.geometry found n)

-- ---- laws

-- BYTES ON THE WAY are those of a disk on the way: some of the calls led to its device, and the others on from it
abbrev pub OnTheWayLaw : {N : Type 0} → View N → Type 0
OnTheWayLaw {N} die = (old new : Device N) (log : List Operation) (run : DeviceCalls die old log new) (n : ℕ) (bytes : List ℕ) → HasOnTheWay die old log new run n bytes
    → (first : List Operation) × (at : Device N) × (later : List Operation) × DeviceCalls die old first at × DeviceCalls die at later new
    × (first ++ later ≡ log) × (bytes ≡ sector_of old.engine.geometry (image_on die at) n)

-- one call is calls one after another
abbrev pub OneCallLaw : {N : Type 0} → View N → Type 0
OneCallLaw {N} die = (old new : Device N) (log : List Operation) → IsRecordedCall die old log new → DeviceCalls die old log new

-- ALL THAT IS ASKED IN A SESSION is such calls, and these very ones, where the device holds its array at its end, and its die tells a record then
abbrev pub SessionLaw : {N : Type 0} → View N → Type 0
SessionLaw {N} die = (old new : Device N) (asked : Through (IsDiskCall die) old new) → IsDisk die old → holds die.honest new ≡ true → IsSome (die.recorded new.engine.nand)
    → (log : List Operation) × (run : DeviceCalls die old log new) × (calls_of die old log new run ≡ asked)

-- A KILL AT ANY MOMENT OF THE CALLS: it mounts, and each call that had ended is in it, and the one at hand whole or not at all
abbrev pub KilledRunLaw : {N : Type 0} → View N → Type 0
KilledRunLaw {N} die = (old new : Device N) (log : List Operation) (found : Image) (run : DeviceCalls die old log new)
    → MayLeave old.engine.geometry (image_on die old) log found → (HasNoCall die old log new run × (found ≡ image_on die old)) ⊎ IsCutIn die old log new run found

-- and what is found so is what a kill may leave by the operations of all the calls
abbrev pub CutLeavesLaw : {N : Type 0} → View N → Type 0
CutLeavesLaw {N} die = (old new : Device N) (log : List Operation) (found : Image) (run : DeviceCalls die old log new) → IsCutIn die old log new run found
    → MayLeave old.engine.geometry (image_on die old) log found

-- A LOSS OF POWER AT ANY MOMENT SINCE ALL PAGES LASTED, as since a sync, of a device that leaves no more sectors stale than a cache may have entries: nothing from before is lost. Where no call was made since, what is found has the records that there were
abbrev pub LostRunLaw : {N : Type 0} → View N → Type 0
LostRunLaw {N} die = (old new : Device N) (log : List Operation) (found : Image) (run : DeviceCalls die old log new) → room_of (ram old.engine) ≤ 65536
    → MayLose old.engine.geometry (image_on die old) log found → (HasNoCall die old log new run × LosesSince (image_on die old) (image_on die old) found) ⊎ IsFoundAfterLoss die old log new run found
