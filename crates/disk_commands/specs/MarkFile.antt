-- THE FILES OF A DISK AS IT IS SYNCED: that of its die, and that of its mark, where one is kept.
use Rattle.std.specs.Prelude.{◌≡◌, ◌⊎◌, ℕ, Bool, true, false, not, if◌then◌else◌, List, length, replicate, slice_set, Option, Some, None, Result}
use Rattle.file_die.specs.declared.bytes.ByteFault.{ByteFault}
use Rattle.file_die.specs.Bytes.{Bytes, WritesFailBy, HasRefused, SyncsBytes}
use Rattle.file_die.specs.Rows.{WritesAll}
use Rattle.disk_server.specs.declared.mark.SyncMark.{SyncMark}
use Rattle.disk_commands.specs.declared.files.DiskFileFault.{DiskFileFault}
use Rattle.disk_commands.specs.declared.files.DiskFileFault.TheVariants.{OutOfMemory, Write}
use Rattle.disk_commands.specs.declared.mark_file.MarkFile.{MarkFile}
use Rattle.disk_commands.specs.declared.syncs.FileSyncs.{FileSyncs}
use Rattle.disk_commands.specs.declared.mark.FoundMark.{FoundMark}
use Rattle.disk_commands.specs.Mark.{IsMarkRead, file_length, none_found, second_at, slot_at, slot_text}

-- ---- the file of a mark

-- it is as long as the file of a mark
abbrev pub IsMarkBytes : Bytes → Type 0
IsMarkBytes s = length s.bytes ≡ file_length

-- A CALL FAILED where the last call of the file did, by this fault: a write, or a sync
abbrev pub FailsLast : {F : Type 0} → (wrote : F → ℕ → List ℕ → Result ℕ ByteFault → F → Type 0) → (refused : F → ByteFault → F → Type 0) → ByteFault → F → Type 0
FailsLast wrote refused why new = WritesFailBy wrote why new ⊎ HasRefused refused why new

-- a mark is written over a slot, done or failed, and no other byte
abbrev pub WritesSlot : Bytes → (second : Bool) → SyncMark → (done : Bool) → Bytes → Type 0
WritesSlot s second m done t = WritesAll s (slot_at second) (slot_text m) done t

-- THE FIRST MARK since the file was opened: it is written over the slot that is next, and then made to last; or one of the two failed
abbrev pub BeginsMark : Bytes → (second : Bool) → SyncMark → (done : Bool) → Bytes → Type 0
BeginsMark s second m true t = (mid : Bytes) × WritesSlot s second m true mid × SyncsBytes mid true t
BeginsMark s second m false t = WritesSlot s second m false t ⊎ ((mid : Bytes) × WritesSlot s second m true mid × SyncsBytes mid false t)

-- A MARK IS KEPT: it is written over the slot that is next. The first one lasts there before it is written over the other slot too
abbrev pub KeepsMark : (fresh : Bool) → Bytes → (second : Bool) → SyncMark → (done : Bool) → Bytes → Type 0
KeepsMark true s second m done t = ((done ≡ false) × BeginsMark s second m false t) ⊎ ((mid : Bytes) × BeginsMark s second m true mid × WritesSlot mid (not second) m done t)
KeepsMark false s second m done t = WritesSlot s second m done t

-- the slot that is next once a mark was kept
abbrev pub slot_after : (fresh second : Bool) → Bool
slot_after fresh second = if fresh then not second else second

-- so it is done or failed in a file that keeps what it is given, and has the length of a mark's
pub record KeepsIn {F : Type 0} (held : F → Bytes) (honest : F → Bool) (old : MarkFile F) (m : SyncMark) (done : Bool) (new : MarkFile F) : Type 0 where
  pub keeps : honest old.file ≡ true → IsMarkBytes (held old.file) → KeepsMark old.fresh (held old.file) old.second m done (held new.file) × IsMarkBytes (held new.file)
  pub as_honest : honest new.file ≡ honest old.file
  pub begun : done ≡ true → new.fresh ≡ false
  pub next : done ≡ true → new.second ≡ slot_after old.fresh old.second

-- no mark stands in it: of each slot's first number the two spellings differ
abbrev pub blank_file : List ℕ
blank_file = slice_set (slice_set (replicate file_length 0) 0 1) second_at 1

-- SO NONE IS FOUND IN IT
abbrev pub BlankMarkLaw : Type 0
BlankMarkLaw = (found : FoundMark) → IsMarkRead (Some blank_file) found → found ≡ none_found

-- IT WAS NOT MADE: memory was refused, and the file is as it was; or the last call of the file failed
abbrev pub BlankFails : {F : Type 0} → (wrote : F → ℕ → List ℕ → Result ℕ ByteFault → F → Type 0) → (refused : F → ByteFault → F → Type 0) → (old : F) → DiskFileFault → F → Type 0
BlankFails wrote refused old fault new = ((fault ≡ OutOfMemory) × (new ≡ old)) ⊎ ((fault ≡ Write) × (why : ByteFault) × FailsLast wrote refused why new)

-- it was written and made to last
abbrev pub HasPutBlank : Bytes → Bytes → Type 0
HasPutBlank s t = (mid : Bytes) × WritesAll s 0 blank_file true mid × SyncsBytes mid true t

-- ---- both files

-- THE MARK IS KEPT WHERE THERE IS A FILE OF IT. One that could not be written, since a call of its file failed, is the last that is tried: its slot may be torn, and the other
-- one counts. That is a failure where it was the first
abbrev pub KeepsMarkIfAny : {F : Type 0} → (held : F → Bytes) → (honest : F → Bool) → (Fails : ByteFault → F → Type 0) → Option (MarkFile F) → SyncMark → (done : Bool) → Option (MarkFile F) → Type 0
KeepsMarkIfAny held honest Fails None m done left = (done ≡ true) × (left ≡ None)
KeepsMarkIfAny {F} held honest Fails (Some file) m done None = (done ≡ not file.fresh) × (broken : MarkFile F) × KeepsIn held honest file m false broken × (why : ByteFault) × Fails why broken.file
KeepsMarkIfAny held honest Fails (Some file) m done (Some left) = (done ≡ true) × KeepsIn held honest file m true left

-- by whether the die's file was synced: where it was not, the file of the mark is left alone
abbrev pub KeepsAfter : {F : Type 0} → (synced : Bool) → (held : F → Bytes) → (honest : F → Bool) → (Fails : ByteFault → F → Type 0) → Option (MarkFile F) → SyncMark → (done : Bool) → Option (MarkFile F) → Type 0
KeepsAfter true held honest Fails kept m done left = KeepsMarkIfAny held honest Fails kept m done left
KeepsAfter false held honest Fails kept m done left = (done ≡ false) × (left ≡ kept)

-- A SYNC OF A DISK'S FILES: the die's is synced, and once that is done the mark is kept. It was not synced just where that call of the file failed
pub record SettlesFiles {F : Type 0} (held : F → Bytes) (honest : F → Bool) (wrote : F → ℕ → List ℕ → Result ℕ ByteFault → F → Type 0) (refused : F → ByteFault → F → Type 0)
    (old : FileSyncs F) (m : SyncMark) (done : Bool) (new : FileSyncs F) : Type 0 where
  pub synced : Bool
  pub failed : synced ≡ false → (why : ByteFault) × refused old.die why new.die
  pub die : honest old.die ≡ true → SyncsBytes (held old.die) synced (held new.die)
  pub as_honest : honest new.die ≡ honest old.die
  pub mark : KeepsAfter synced held honest (FailsLast wrote refused) old.kept m done new.kept
