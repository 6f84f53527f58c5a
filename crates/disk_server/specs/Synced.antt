-- WHETHER A SYNC WAS DONE, and what a client is told of a disk.
use Rattle.std.specs.Prelude.{◌≡◌, ◌⊎◌, ◌<◌, ◌≤◌, ◌+◌, ◌-◌, ◌^◌, ◌%◌, ℕ, Bool, true, false, min, max, Result, Ok, Err, OnOk, OnErr, if◌then◌else◌}
use Rattle.std.specs.Int.{div_ceil}
use Rattle.page_layout.specs.Counter.{counted, HasRisen}
use Rattle.nbd_stream.specs.declared.export.Export.{Export}
use Rattle.nbd_stream.specs.declared.fault.DiskFault.{DiskFault}
use Rattle.nbd_stream.specs.declared.fault.DiskFault.TheVariants as fault
use Rattle.nbd_stream.specs.declared.task.Task.{Task}
use Rattle.nbd_stream.specs.declared.task.Task.TheVariants.{Read, Write, Flush, Trim, WriteZeroes}
use Rattle.nbd_stream.specs.Through.{Through}
use Rattle.disk_server.specs.declared.mark.SyncMark.{SyncMark}
use Rattle.disk_server.specs.declared.served.Offer.{Offer}
use Rattle.disk_server.specs.declared.synced.SyncedDisk.{SyncedDisk}

-- the pieces of so many bytes that a range touches; a piece has a byte at least
abbrev pub touched : (piece offset count : ℕ) → ℕ
touched piece offset count = div_ceil (offset % max piece 1 + count) (max piece 1)

-- the disk with the pieces of a range counted as changed. The count stays at 2^64 - 1 once there
abbrev pub after_change : {D Y : Type 0} → (offset count : ℕ) → SyncedDisk D Y → SyncedDisk D Y
after_change offset count s = record {
  disk = s.disk;
  syncs = s.syncs;
  pace = s.pace;
  unsynced = min (s.unsynced + touched s.pace.piece offset count) (2 ^ 64 - 1);
  failed = s.failed;
}

-- nothing but the disk is another
pub record KeepsSyncs {D Y : Type 0} (old new : SyncedDisk D Y) : Type 0 where
  pub syncs_same : new.syncs ≡ old.syncs
  pub pace_same : new.pace ≡ old.pace
  pub unsynced_same : new.unsynced ≡ old.unsynced
  pub failed_same : new.failed ≡ old.failed

-- no sync was done, and as much counts as changed as before
pub record IsUnsynced {D Y : Type 0} (synced : Y → ℕ) (old new : SyncedDisk D Y) : Type 0 where
  pub none : synced new.syncs ≡ synced old.syncs
  pub pace_same : new.pace ≡ old.pace
  pub unsynced_same : new.unsynced ≡ old.unsynced

-- a sync is due: what was done is to last, or more was changed since the last one than may be
abbrev pub IsSyncDue : {D Y : Type 0} → (durable : Bool) → SyncedDisk D Y → Type 0
IsSyncDue durable s = (durable ≡ true) ⊎ (s.pace.most < s.unsynced)

-- one more sync was done, and nothing counts as changed
pub record SyncsOnceMore {D Y : Type 0} (synced : Y → ℕ) (old new : SyncedDisk D Y) : Type 0 where
  pub one : synced new.syncs ≡ counted (synced old.syncs)
  pub pace_same : new.pace ≡ old.pace
  pub all : new.unsynced ≡ 0

-- A SYNC WAS DONE JUST WHERE ONE WAS DUE
abbrev pub HasSynced : {D Y : Type 0} → (synced : Y → ℕ) → (durable : Bool) → (old new : SyncedDisk D Y) → Type 0
HasSynced synced durable old new = (IsSyncDue durable old × SyncsOnceMore synced old new) ⊎ ((¬ IsSyncDue durable old) × KeepsSyncs old new)

-- any syncs were done; their count stays at 2^64 - 1 once there
pub record KeepsCount {D Y : Type 0} (synced : Y → ℕ) (old new : SyncedDisk D Y) : Type 0 where
  pub syncs : (synced old.syncs ≤ synced new.syncs) ⊎ (synced new.syncs ≡ 2 ^ 64 - 1)
  pub pace_same : new.pace ≡ old.pace

-- A RANGE COUNTS AS CHANGED, each piece that it touches, unless a sync was done since
abbrev pub CountsRangeChanged : {D Y : Type 0} → (synced : Y → ℕ) → (offset count : ℕ) → (old new : SyncedDisk D Y) → Type 0
CountsRangeChanged synced offset count old new = HasRisen (synced old.syncs) (synced new.syncs) ⊎ ((after_change offset count old).unsynced ≤ new.unsynced)

-- AFTER PARTS of a change no more counts as changed than may be; after a change that is to last, which ended with one more sync, nothing does
pub record EndsSynced {D Y : Type 0} (synced : Y → ℕ) (durable : Bool) (offset count : ℕ) (old new : SyncedDisk D Y) : Type 0 where
  pub few : new.unsynced ≤ old.pace.most
  pub counts : 0 < count → CountsRangeChanged synced offset count old new
  pub pace_same : new.pace ≡ old.pace
  pub all : durable ≡ true → new.unsynced ≡ 0
  pub one_more : durable ≡ true → HasRisen (synced old.syncs) (synced new.syncs)

-- ---- the mark of what was synced

-- THE MARK AFTER A SYNC, where this sequence was next, and by whether the disk had been flushed
abbrev pub after_sync : (next : ℕ) → (flushed : Bool) → SyncMark → SyncMark
after_sync next flushed m = record { synced = next; flushed = if flushed then next else m.flushed }

-- WHAT IS MARKED WITH A SYNC THAT WAS DUE: all that the disk had programmed by then, and no flush of it. Without one, and after one that failed, the mark is the one before
abbrev pub Marks : {D Y : Type 0} → (marked : Y → SyncMark) → (next : D → ℕ) → (durable : Bool) → (old : SyncedDisk D Y) → Result (Unit {0}) DiskFault → (new : SyncedDisk D Y) → Type 0
Marks marked next durable old (Ok done) new =
    (IsSyncDue durable old × (marked new.syncs ≡ after_sync (next new.disk) false (marked old.syncs)))
    ⊎ ((¬ IsSyncDue durable old) × (marked new.syncs ≡ marked old.syncs))
Marks marked next durable old (Err e) new = marked new.syncs ≡ marked old.syncs

-- ---- a sync that failed

-- no sync failed
pub record NoneFailed {D Y : Type 0} (failed : Y → ℕ) (old new : SyncedDisk D Y) : Type 0 where
  pub same : new.failed ≡ old.failed
  pub count_same : failed new.syncs ≡ failed old.syncs

-- a sync failed, and that is kept
pub record OneFailed {D Y : Type 0} (failed : Y → ℕ) (old new : SyncedDisk D Y) : Type 0 where
  pub kept : new.failed ≡ true
  pub rose : HasRisen (failed old.syncs) (failed new.syncs)

-- THAT A SYNC FAILED IS KEPT, and nothing else is taken for it; after a call that is done none did
abbrev pub NotesFailedSync : {D Y : Type 0} → (failed : Y → ℕ) → (old : SyncedDisk D Y) → Result (Unit {0}) DiskFault → (new : SyncedDisk D Y) → Type 0
NotesFailedSync failed old (Ok done) new = NoneFailed failed old new
NotesFailedSync failed old (Err e) new = NoneFailed failed old new ⊎ OneFailed failed old new

-- WHAT A CALL ANSWERS, by what the disk answered: an error of the disk as it is. Where the disk had none it is done, or a sync behind it failed
abbrev pub IsToldOf : {D Y : Type 0} → (failed : Y → ℕ) → (answer : Result (Unit {0}) DiskFault) → (old : SyncedDisk D Y) → Result (Unit {0}) DiskFault → (new : SyncedDisk D Y) → Type 0
IsToldOf failed (Ok done) old (Ok did) new = NoneFailed failed old new
IsToldOf failed (Ok done) old (Err e) new = (e ≡ fault.Failed) × OneFailed failed old new
IsToldOf failed (Err e) old result new = (result ≡ Err e) × NoneFailed failed old new

-- NOTHING IS ASKED of the disk, nor of its syncs
abbrev pub FailsUnasked : {D Y : Type 0} → (old : SyncedDisk D Y) → Result (Unit {0}) DiskFault → (new : SyncedDisk D Y) → Type 0
FailsUnasked old result new = (result ≡ Err fault.Failed) × (new ≡ old)

-- A REST is one of the disk; after a sync that failed there is none
abbrev pub RestsSynced : {D Y : Type 0} → (rests : D → Result (Unit {0}) DiskFault → D → Type 0) → SyncedDisk D Y → Result (Unit {0}) DiskFault → SyncedDisk D Y → Type 0
RestsSynced rests old result new =
    ((old.failed ≡ true) × FailsUnasked old result new)
    ⊎ ((old.failed ≡ false) × rests old.disk result new.disk × KeepsSyncs old new)

-- ---- a task

-- A CHANGE, counted already, and the sync behind it: where one was due it was done, after all that was written before, as its mark tells; after an error there was none
pub record SyncsBehindChange {D Y : Type 0} (synced : Y → ℕ) (marked : Y → SyncMark) (next : D → ℕ) (durable : Bool) (counted : SyncedDisk D Y) (result : Result (Unit {0}) DiskFault) (new : SyncedDisk D Y) : Type 0 where
  pub synced_if_due : OnOk result (HasSynced synced durable counted new)
  pub unsynced : OnErr result (IsUnsynced synced counted new)
  pub marks : Marks marked next durable counted result new

-- A CHANGE OF THE DISK, counted already, which is not told that it is to last; its answer, and the sync behind it
pub record ChangesDisk {D Y : Type 0} (does : D → Task → Result (Unit {0}) DiskFault → D → Type 0) (synced failed : Y → ℕ) (marked : Y → SyncMark) (next : D → ℕ) (durable : Bool) (task : Task)
    (counted : SyncedDisk D Y) (result : Result (Unit {0}) DiskFault) (new : SyncedDisk D Y) : Type 0 where
  pub answer : Result (Unit {0}) DiskFault
  pub does_so : does counted.disk task answer new.disk
  pub told : IsToldOf failed answer counted result new
  pub behind : SyncsBehindChange synced marked next durable counted result new

-- NOTHING IS ASKED OF THE DISK, and a sync is done where one is due
pub record SettlesDisk {D Y : Type 0} (synced failed : Y → ℕ) (marked : Y → SyncMark) (next : D → ℕ) (durable : Bool) (old : SyncedDisk D Y) (result : Result (Unit {0}) DiskFault) (new : SyncedDisk D Y) : Type 0 where
  pub same : new.disk ≡ old.disk
  pub told : IsToldOf failed (Ok tt) old result new
  pub behind : SyncsBehindChange synced marked next durable old result new

-- the most bytes that are cleared before it is looked whether a sync is due: a megabyte
abbrev pub part_most : ℕ
part_most = 1048576

-- A PART OF A RANGE IS CLEARED, a megabyte at most, and synced behind that where a sync is due. A range that would end past the last u64, as on no disk, is one part
pub record ClearsPart {D Y : Type 0} (does : D → Task → Result (Unit {0}) DiskFault → D → Type 0) (synced failed : Y → ℕ) (marked : Y → SyncMark) (next : D → ℕ) (offset count : ℕ)
    (old : SyncedDisk D Y) (result : Result (Unit {0}) DiskFault) (new : SyncedDisk D Y) : Type 0 where
  pub place : ℕ
  pub taken : ℕ
  pub begins : offset ≤ place
  pub inside : place + taken ≤ offset + count
  pub few : (taken ≤ part_most) ⊎ (2 ^ 64 ≤ offset + count)
  pub change : ChangesDisk does synced failed marked next false (Trim place taken false) (after_change place taken old) result new

abbrev pub ClearsDonePart : {D Y : Type 0} → (does : D → Task → Result (Unit {0}) DiskFault → D → Type 0) → (synced failed : Y → ℕ) → (marked : Y → SyncMark) → (next : D → ℕ) → (offset count : ℕ)
    → (old new : SyncedDisk D Y) → Type 0
ClearsDonePart does synced failed marked next offset count old new = ClearsPart does synced failed marked next offset count old (Ok tt) new

-- PARTS, one after another: each is done, but the last one where the answer is an error, which is that part's
abbrev pub ClearsParts : {D Y : Type 0} → (does : D → Task → Result (Unit {0}) DiskFault → D → Type 0) → (synced failed : Y → ℕ) → (marked : Y → SyncMark) → (next : D → ℕ) → (offset count : ℕ)
    → (old : SyncedDisk D Y) → Result (Unit {0}) DiskFault → (new : SyncedDisk D Y) → Type 0
ClearsParts does synced failed marked next offset count old (Ok done) new = Through (ClearsDonePart does synced failed marked next offset count) old new
ClearsParts {D} {Y} does synced failed marked next offset count old (Err e) new =
    (mid : SyncedDisk D Y) × Through (ClearsDonePart does synced failed marked next offset count) old mid × ClearsPart does synced failed marked next offset count mid (Err e) new

-- A RANGE TO BE CLEARED, and the syncs within it and behind it: a part of it failed; or all were done, and a sync behind them, where one was due. The last one, where it is to last, was done after all of it
pub record EndsCleared {D Y : Type 0} (does : D → Task → Result (Unit {0}) DiskFault → D → Type 0) (synced failed : Y → ℕ) (marked : Y → SyncMark) (next : D → ℕ) (durable : Bool) (offset count : ℕ)
    (old : SyncedDisk D Y) (result : Result (Unit {0}) DiskFault) (new : SyncedDisk D Y) : Type 0 where
  pub mid : SyncedDisk D Y
  pub answer : Result (Unit {0}) DiskFault
  pub parts : ClearsParts does synced failed marked next offset count old answer mid
  pub done : OnOk answer (SettlesDisk synced failed marked next durable mid result new)
  pub not_done : OnErr answer ((result ≡ answer) × (new ≡ mid))
  pub ends : OnOk result (EndsSynced synced durable offset count old new)
  pub marked_last : OnOk result (durable ≡ true → (marked new.syncs).synced ≡ next new.disk)
  pub unflushed : (marked new.syncs).flushed ≡ (marked old.syncs).flushed

-- WHAT A TASK IS TO A DISK AND ITS SYNCS, where no sync failed before: a read and a write are one of the disk, which is not told that it is to last; a flush asks nothing of the disk, and is a sync.
-- An error is the disk's, or a sync failed
abbrev pub EndsTask : {D Y : Type 0} → (does : D → Task → Result (Unit {0}) DiskFault → D → Type 0) → (synced failed : Y → ℕ) → (marked : Y → SyncMark) → (next : D → ℕ)
    → (old : SyncedDisk D Y) → Task → Result (Unit {0}) DiskFault → (new : SyncedDisk D Y) → Type 0
EndsTask does synced failed marked next old (Read offset count) result new = does old.disk (Read offset count) result new.disk × KeepsSyncs old new
EndsTask does synced failed marked next old (Write offset count durable) result new = ChangesDisk does synced failed marked next durable (Write offset count false) (after_change offset count old) result new
EndsTask does synced failed marked next old Flush result new = SettlesDisk synced failed marked next true old result new
EndsTask does synced failed marked next old (Trim offset count durable) result new = EndsCleared does synced failed marked next durable offset count old result new
EndsTask does synced failed marked next old (WriteZeroes offset count durable) result new = EndsCleared does synced failed marked next durable offset count old result new

-- WHAT A CALL IS, beside the bytes
pub record SyncsTask {D Y : Type 0} (does : D → Task → Result (Unit {0}) DiskFault → D → Type 0) (synced failed : Y → ℕ) (marked : Y → SyncMark) (next : D → ℕ)
    (old : SyncedDisk D Y) (task : Task) (result : Result (Unit {0}) DiskFault) (new : SyncedDisk D Y) : Type 0 where
  pub over : old.failed ≡ true → FailsUnasked old result new
  pub ends : old.failed ≡ false → EndsTask does synced failed marked next old task result new
  pub notes : NotesFailedSync failed old result new

-- ---- as a session ends

-- THE DISK IS KNOWN TO BE FLUSHED AND SYNCED: its mark counts, and says so up to the very page that is next. So nothing was programmed since
abbrev pub IsKnownFlushed : {D Y : Type 0} → (marked : Y → SyncMark) → (next : D → ℕ) → (counts : Bool) → SyncedDisk D Y → Type 0
IsKnownFlushed marked next counts s = (counts ≡ true) × ((marked s.syncs).flushed ≡ next s.disk)

-- it was flushed, and one more sync was done behind that, with the mark of both
pub record FlushesDisk {D Y : Type 0} (does : D → Task → Result (Unit {0}) DiskFault → D → Type 0) (synced : Y → ℕ) (marked : Y → SyncMark) (next : D → ℕ) (takes : D → Bool) (old new : SyncedDisk D Y) : Type 0 where
  pub flushed : does old.disk Flush (Ok tt) new.disk
  pub syncs : SyncsOnceMore synced old new
  pub marks : marked new.syncs ≡ after_sync (next new.disk) (takes new.disk) (marked old.syncs)

-- or one of the two failed: the flush, whose error it is, or the sync
pub record FailsToFlush {D Y : Type 0} (does : D → Task → Result (Unit {0}) DiskFault → D → Type 0) (synced failed : Y → ℕ) (marked : Y → SyncMark) (old : SyncedDisk D Y) (e : DiskFault) (new : SyncedDisk D Y) : Type 0 where
  pub answer : Result (Unit {0}) DiskFault
  pub asked : does old.disk Flush answer new.disk
  pub told : IsToldOf failed answer old (Err e) new
  pub unsynced : IsUnsynced synced old new
  pub unmarked : marked new.syncs ≡ marked old.syncs

abbrev pub FlushesBy : {D Y : Type 0} → (does : D → Task → Result (Unit {0}) DiskFault → D → Type 0) → (synced failed : Y → ℕ) → (marked : Y → SyncMark) → (next : D → ℕ) → (takes : D → Bool)
    → (old : SyncedDisk D Y) → Result (Unit {0}) DiskFault → (new : SyncedDisk D Y) → Type 0
FlushesBy does synced failed marked next takes old (Ok done) new = FlushesDisk does synced marked next takes old new
FlushesBy does synced failed marked next takes old (Err e) new = FailsToFlush does synced failed marked old e new

-- HOW A DISK IS CLOSED: it is flushed, unless it is known to be; after a sync that failed nothing is asked
pub record Closes {D Y : Type 0} (does : D → Task → Result (Unit {0}) DiskFault → D → Type 0) (synced failed : Y → ℕ) (marked : Y → SyncMark) (next : D → ℕ) (takes : D → Bool) (counts : Bool)
    (old : SyncedDisk D Y) (result : Result (Unit {0}) DiskFault) (new : SyncedDisk D Y) : Type 0 where
  pub over : old.failed ≡ true → FailsUnasked old result new
  pub known : old.failed ≡ false → IsKnownFlushed marked next counts old → (result ≡ Ok tt) × (new ≡ old)
  pub flushes : old.failed ≡ false → ¬ IsKnownFlushed marked next counts old → FlushesBy does synced failed marked next takes old result new
  pub notes : NotesFailedSync failed old result new

-- ---- laws

-- NO TASK MARKS MORE AS FLUSHED than was
abbrev pub UnflushedLaw : {D Y : Type 0} → (does : D → Task → Result (Unit {0}) DiskFault → D → Type 0) → (synced failed : Y → ℕ) → (marked : Y → SyncMark) → (next : D → ℕ) → Type 0
UnflushedLaw {D} {Y} does synced failed marked next = (old new : SyncedDisk D Y) (task : Task) (result : Result (Unit {0}) DiskFault) → SyncsTask does synced failed marked next old task result new
    → (marked new.syncs).flushed ≡ (marked old.syncs).flushed

-- a flush, and a change that is to last
abbrev pub IsLasting : Task → Type 0
IsLasting (Read offset count) = ⊥
IsLasting (Write offset count durable) = durable ≡ true
IsLasting Flush = Unit {0}
IsLasting (Trim offset count durable) = durable ≡ true
IsLasting (WriteZeroes offset count durable) = durable ≡ true

-- ONE THAT IS DONE IS SYNCED LAST: the mark tells all that the disk has programmed by its end
abbrev pub SyncedLastLaw : {D Y : Type 0} → (does : D → Task → Result (Unit {0}) DiskFault → D → Type 0) → (synced failed : Y → ℕ) → (marked : Y → SyncMark) → (next : D → ℕ) → Type 0
SyncedLastLaw {D} {Y} does synced failed marked next = (old new : SyncedDisk D Y) (task : Task) → IsLasting task → SyncsTask does synced failed marked next old task (Ok tt) new
    → (marked new.syncs).synced ≡ next new.disk

-- A DISK THAT WAS CLOSED, and takes changes, is marked as flushed up to the page that is next
abbrev pub CloseLaw : {D Y : Type 0} → (does : D → Task → Result (Unit {0}) DiskFault → D → Type 0) → (synced failed : Y → ℕ) → (marked : Y → SyncMark) → (next : D → ℕ) → (takes : D → Bool) → Type 0
CloseLaw {D} {Y} does synced failed marked next takes = (counts : Bool) (old new : SyncedDisk D Y) → Closes does synced failed marked next takes counts old (Ok tt) new → takes new.disk ≡ true
    → (marked new.syncs).flushed ≡ next new.disk

-- ONCE A SYNC FAILED NOTHING IS ASKED, and each task is answered `Failed`: what was written before may be lost, and the next sync may answer that all is well
abbrev pub AfterFailedSyncLaw : {D Y : Type 0} → (does : D → Task → Result (Unit {0}) DiskFault → D → Type 0) → (synced failed : Y → ℕ) → (marked : Y → SyncMark) → (next : D → ℕ) → Type 0
AfterFailedSyncLaw {D} {Y} does synced failed marked next = (old mid new : SyncedDisk D Y) (task later : Task) (answer result : Result (Unit {0}) DiskFault) → failed old.syncs < failed mid.syncs
    → SyncsTask does synced failed marked next old task answer mid → SyncsTask does synced failed marked next mid later result new → (result ≡ Err fault.Failed) × (new ≡ mid)

-- A FLUSH THAT IS DONE IS ONE SYNC, and asks nothing of the disk
abbrev pub FlushLaw : {D Y : Type 0} → (does : D → Task → Result (Unit {0}) DiskFault → D → Type 0) → (synced failed : Y → ℕ) → (marked : Y → SyncMark) → (next : D → ℕ) → Type 0
FlushLaw {D} {Y} does synced failed marked next = (old new : SyncedDisk D Y) → SyncsTask does synced failed marked next old Flush (Ok tt) new
    → (new.disk ≡ old.disk) × (synced new.syncs ≡ counted (synced old.syncs)) × (new.unsynced ≡ 0)

-- A WRITE THAT IS DONE was one of the disk, which was not told that it is to last; and no sync was done of it only where it need not last and each piece that it touched counts as changed, with
-- those before not more than may be
abbrev pub WriteLaw : {D Y : Type 0} → (does : D → Task → Result (Unit {0}) DiskFault → D → Type 0) → (synced failed : Y → ℕ) → (marked : Y → SyncMark) → (next : D → ℕ) → Type 0
WriteLaw {D} {Y} does synced failed marked next = (old new : SyncedDisk D Y) (offset count : ℕ) (durable : Bool) → SyncsTask does synced failed marked next old (Write offset count durable) (Ok tt) new
    → does old.disk (Write offset count false) (Ok tt) new.disk
    × (((synced new.syncs ≡ counted (synced old.syncs)) × (new.unsynced ≡ 0))
    ⊎ ((durable ≡ false) × (new.syncs ≡ old.syncs) × (new.unsynced ≡ min (old.unsynced + touched old.pace.piece offset count) (2 ^ 64 - 1)) × (new.unsynced ≤ old.pace.most)))

-- AN ERROR BEFORE ANY SYNC FAILED is the disk's: so a flush has none then, and a write the one that the disk had
abbrev pub FaultLaw : {D Y : Type 0} → (does : D → Task → Result (Unit {0}) DiskFault → D → Type 0) → (synced failed : Y → ℕ) → (marked : Y → SyncMark) → (next : D → ℕ) → Type 0
FaultLaw {D} {Y} does synced failed marked next = (old new : SyncedDisk D Y) (e : DiskFault) → old.failed ≡ false → new.failed ≡ false
    → (¬ SyncsTask does synced failed marked next old Flush (Err e) new)
    × ((offset count : ℕ) (durable : Bool) → SyncsTask does synced failed marked next old (Write offset count durable) (Err e) new → does old.disk (Write offset count false) (Err e) new.disk)

-- ---- what a client is told

-- so many bytes, on these terms
abbrev pub export_of : Offer → (size : ℕ) → Export
export_of offer size = record { size = size; read_only = offer.read_only; preferred = offer.preferred; maximum = offer.maximum }
