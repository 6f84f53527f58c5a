-- WHAT AN OPENING TAKES AWAY from the pages of a disk that was killed, or lost its power: none that counts.
use Rattle.std.specs.Prelude.{◌≡◌, ◌⊎◌, ◌+◌, ◌<◌, ◌≤◌, ℕ, Bool, true, List, get_or, Some, None}
use Rattle.page_layout.specs.declared.geometry.Geometry.{Geometry}
use Rattle.page_layout.specs.declared.record.Key.{Key}
use Rattle.page_layout.specs.declared.record.Record.{Record}
use Rattle.page_layout.specs.View.{View}
use Rattle.page_layout.specs.Page.{Image}
use Rattle.page_layout.specs.Array.{marks, HasOneArray}
use Rattle.page_layout.specs.Newest.{newest}
use Rattle.page_layout.specs.OneArray.{AreBelow}
use Rattle.page_layout.specs.Change.{HoldsNone, IsUnsoundAt}
use Rattle.page_layout.specs.Flash.{Operation}
use Rattle.promises.specs.Stop.{MayLeave}
use Rattle.image_check.specs.Torn.{StandsFor}
use Rattle.file_die.specs.Store.{Held, AreImages}
use Rattle.crash_recovery.specs.Torn.{IsCut, row_in}
use Rattle.crash_recovery.specs.Taken.{Recovers, RecoversSome, Takes}
use Rattle.crash_recovery.specs.Laws.{TakesNoNewest}
use Rattle.collection.specs.Safe.{ram}
use Rattle.collection.specs.Stops.{room_of}
use Rattle.ftl_device.specs.declared.device.Device.{Device}
use Rattle.disk_server.specs.Disk.{IsDisk, holds}
use Rattle.disk_laws.specs.Killed.{MountsFor, bytes_found}
use Rattle.disk_laws.specs.Lost.{MayLose}
use Rattle.disk_laws.specs.Runs.{DeviceCalls, HasNoCall, IsFoundAfterLoss, NoCall, OneMore, image_on}
use Rattle.disk_laws.specs.StoreRuns.{ErasesPass}

-- behind a page of the block that has no record each one that has is marked: its sequence is below the mark
pub record IsMarkedBehind (g : Geometry) (image : Image) (mark block : ℕ) : Type 0 where
  pub marked : (a k : ℕ) (r : Record) → a < k → k < g.pages → IsUnsoundAt image (row_in g block a) → get_or (marks image) (row_in g block k) None ≡ Some r → r.sequence < mark

-- A CUT BY THIS MARK SPARES EACH NEWEST PAGE, whatever the blocks show: each block is marked behind, or no key has its newest page there
abbrev pub CutsSpare : Geometry → Image → (mark : ℕ) → Type 0
CutsSpare g image mark = (block : ℕ) → IsMarkedBehind g image mark block ⊎ HoldsNone g.pages block image

-- A STORE IS RECOVERED as it is opened with the pages that it was left with, whole or as far as that came
pub record IsRecoveredOnce (mark : ℕ) (s t : Held) : Type 0 where
  pub opened : Held
  pub opened_as : opened.geometry ≡ s.geometry
  pub pages : opened.pages ≡ s.pages
  pub images : AreImages opened
  pub geometry : t.geometry ≡ opened.geometry
  pub taken : ((changed : Bool) × Recovers mark opened t changed) ⊎ RecoversSome mark opened t

-- OPENINGS ONE AFTER ANOTHER, of which each may be killed or fail before the next
pub data IsRecoveredOften (mark : ℕ) (s : Held) : Held → Type 0 where
  NotOpened : IsRecoveredOften mark s s
  OpenedOnce : (mid t : Held) → IsRecoveredOften mark s mid → IsRecoveredOnce mark mid t → IsRecoveredOften mark s t

-- ONE CALL WAS CUT SHORT, and these pages are left in the end: they mount, and the bytes of the disk are those from before the call, or from after it
pub record IsWholeIn {N : Type 0} (die : View N) (old first next : Device N) (pages : Image) : Type 0 where
  pub whole : (bytes_found old pages ≡ bytes_found old (image_on die first)) ⊎ (bytes_found old pages ≡ bytes_found old (image_on die next))
  pub mounts : MountsFor old pages

-- one of the calls was
abbrev pub IsWholeAfter : {N : Type 0} → (die : View N) → (old : Device N) → (log : List Operation) → (new : Device N) → DeviceCalls die old log new → (pages : Image) → Type 0
IsWholeAfter die old log new NoCall pages = ⊥
IsWholeAfter die old log new (OneMore before mid more last run does) pages = IsWholeAfter die old before mid run pages ⊎ IsWholeIn die old mid last pages

-- ---- laws of images

-- where all pages are marked, as by a sync, it spares them
abbrev pub AllMarkedLaw : Type 0
AllMarkedLaw = (g : Geometry) (image : Image) (mark : ℕ) → AreBelow (marks image) mark → CutsSpare g image mark

-- and a later mark spares what an earlier one does
abbrev pub LaterMarkLaw : Type 0
LaterMarkLaw = (g : Geometry) (image : Image) (mark later : ℕ) → mark ≤ later → CutsSpare g image mark → CutsSpare g image later

-- THE WORD IS RIGHT: no row that is cut is a newest page
abbrev pub CutSparesLaw : Type 0
CutSparesLaw = (g : Geometry) (image : Image) (mark : ℕ) → CutsSpare g image mark → TakesNoNewest (IsCut g image mark) image

-- and it is said of no image in which a newest page that is not marked stands behind one without a record, in its block
abbrev pub UnmarkedBehindLaw : Type 0
UnmarkedBehindLaw = (g : Geometry) (image : Image) (mark block a k : ℕ) (key : Key) (r : Record) → a < k → k < g.pages → IsUnsoundAt image (row_in g block a)
    → newest (marks image) key ≡ Some (row_in g block k) → get_or (marks image) (row_in g block k) None ≡ Some r → mark ≤ r.sequence → ¬ CutsSpare g image mark

-- AN OPENING LOSES NOTHING THEN, whole or not: the pages that it leaves stand for those that it found, and it is so of them again
abbrev pub OpeningSparesLaw : Type 0
OpeningSparesLaw = (mark : ℕ) (s t : Held) → HasOneArray s.geometry s.pages → CutsSpare s.geometry s.pages mark → IsRecoveredOften mark s t
    → StandsFor s.geometry s.pages t.pages × HasOneArray s.geometry t.pages × CutsSpare s.geometry t.pages mark × (t.geometry ≡ s.geometry)

-- ---- laws of calls

-- of a device that holds its array, a mark not below the sequence of its next page spares them, as one that is told now
abbrev pub OwnMarkLaw : {N : Type 0} → View N → Type 0
OwnMarkLaw {N} die = (d : Device N) (mark : ℕ) → IsDisk die d → holds die.honest d ≡ true → d.engine.next ≤ mark → CutsSpare d.engine.geometry (image_on die d) mark

-- CALLS KEEP IT SO, and a kill at any moment of them: each block takes its pages in order, and one that is erased holds no newest page
abbrev pub KilledSparesLaw : {N : Type 0} → View N → Type 0
KilledSparesLaw {N} die = (old new : Device N) (log : List Operation) (run : DeviceCalls die old log new) (found : Image) (mark : ℕ) → room_of (ram old.engine) ≤ 65536
    → CutsSpare old.engine.geometry (image_on die old) mark → MayLeave old.engine.geometry (image_on die old) log found → CutsSpare old.engine.geometry found mark

-- KILLED AT ANY MOMENT OF THE CALLS, AND OPENED AGAIN, however often that is killed too: the pages that are left stand for those that were found. So they mount, each call that had ended is in them, and the one at hand whole or not at all
abbrev pub KilledOpenedLaw : {N : Type 0} → View N → Type 0
KilledOpenedLaw {N} die = (old new : Device N) (log : List Operation) (run : DeviceCalls die old log new) (s t : Held) (mark : ℕ) → room_of (ram old.engine) ≤ 65536
    → IsDisk die old → holds die.honest old ≡ true → CutsSpare old.engine.geometry (image_on die old) mark
    → s.geometry ≡ old.engine.geometry → MayLeave old.engine.geometry (image_on die old) log s.pages → IsRecoveredOften mark s t
    → StandsFor old.engine.geometry s.pages t.pages × ((HasNoCall die old log new run × StandsFor old.engine.geometry (image_on die old) t.pages) ⊎ IsWholeAfter die old log new run t.pages)

-- THE POWER GOES, since all pages lasted and were marked, and the store is opened again: where it was cut back, whole or in part, the pages that are left are what a loss of power may leave as well;
-- or it went inside an erase, and what was found is what a kill may leave
abbrev pub LostCutLaw : {N : Type 0} → View N → Type 0
LostCutLaw {N} die = (old new : Device N) (log : List Operation) (run : DeviceCalls die old log new) (s t : Held) (mark : ℕ)
    → ((block : ℕ) → IsMarkedBehind old.engine.geometry (image_on die old) mark block) → ErasesPass log → AreImages s → s.geometry ≡ old.engine.geometry
    → MayLose old.engine.geometry (image_on die old) log s.pages → Takes (IsCut s.geometry s.pages mark) s t
    → MayLose old.engine.geometry (image_on die old) log t.pages ⊎ MayLeave old.engine.geometry (image_on die old) log s.pages

-- SO AFTER A LOSS OF POWER AND AN OPENING, whole or as far as that came, the disk is what `LostRunLaw` says of what was found
abbrev pub LostOpenedLaw : {N : Type 0} → View N → Type 0
LostOpenedLaw {N} die = (old new : Device N) (log : List Operation) (run : DeviceCalls die old log new) (s t : Held) (mark : ℕ) → room_of (ram old.engine) ≤ 65536
    → IsDisk die old → holds die.honest old ≡ true → ((block : ℕ) → IsMarkedBehind old.engine.geometry (image_on die old) mark block) → ErasesPass log
    → s.geometry ≡ old.engine.geometry → MayLose old.engine.geometry (image_on die old) log s.pages → IsRecoveredOnce mark s t
    → IsFoundAfterLoss die old log new run t.pages
