-- A FILE OF ROWS: bytes of one size for each row of a die, one row behind another, read as pages.
use Rattle.std.specs.Prelude.{◌≡◌, ℕ, ◌*◌, ◌<◌, ◌≤◌, slice_index, ◌==◌, ◌&&◌, Bool, true, false, List, length, map, replicate, Option, Some, None, Result, Ok, Err, OnOk, OnErr, slice_get, ◌+◌}
use Rattle.std.specs.List.{range_with_len}
use Rattle.page_layout.specs.declared.geometry.Geometry.{Geometry}
use Rattle.page_layout.specs.Geometry.{row_count}
use Rattle.page_layout.specs.Page.{Page, Image, IsPage}
use Rattle.page_layout.specs.Change.{erased_page}
use Rattle.page_layout.specs.Counter.{HasRisen}
use Rattle.file_die.specs.declared.bytes.ByteFault.{ByteFault}
use Rattle.file_die.specs.declared.store.StoreFault.{StoreFault}
use Rattle.file_die.specs.declared.bytes.ByteFault.TheVariants as fault
use Rattle.file_die.specs.Bytes.{Bytes, HoldsOnlyBytes, WritesFailBy, HasEnded, Mixes, LastsMixed, AreAlike, TakesBytes, TakesFewer, over, piece}
use Rattle.file_die.specs.Store.{Held}

-- ---- a write of all bytes

-- one that is done leaves them in their place and no other byte changed; one that fails leaves each place as it was or as it was to be
pub record WritesAll (s : Bytes) (at : ℕ) (given : List ℕ) (done : Bool) (t : Bytes) : Type 0 where
  pub mixes : Mixes s.bytes (over at given s.bytes) t.bytes
  pub written : done ≡ true → t.bytes ≡ over at given s.bytes
  pub lasts : LastsMixed s.durable s.bytes t.bytes t.durable
  pub syncs : t.failed_syncs ≡ s.failed_syncs

-- WHERE SUCH A WRITE STANDS, once the first bytes are written
pub record Going (s : Bytes) (at : ℕ) (given : List ℕ) (done : ℕ) (t : Bytes) : Type 0 where
  pub mixes : Mixes s.bytes (over at given s.bytes) t.bytes
  pub alike : AreAlike (at + done) t.bytes (over at given s.bytes)
  pub lasts : LastsMixed s.durable s.bytes t.bytes t.durable
  pub syncs : t.failed_syncs ≡ s.failed_syncs
  pub reaches : at + done ≤ length t.bytes

-- how many bytes have been moved, where a call that failed has moved none
abbrev pub moved_by : ℕ → Result ℕ ByteFault → ℕ
moved_by done (Ok next) = next
moved_by done (Err fault) = done

-- the first bytes of a buffer are those of a file from a place on
abbrev pub IsFilled : List ℕ → ℕ → ℕ → List ℕ → Type 0
IsFilled bytes at done buffer = (i : ℕ) → i < done → slice_get buffer i ≡ slice_get bytes (at + i)

-- ---- the rows

-- its file; the die, and how many bytes a row has; the failures so far, the first fault, whether there was no room for the change that its last call was, and whether a sync has failed
pub record Rows (F : Type 0) : Type 0 where
  pub file : F
  pub geometry : Geometry
  pub size : ℕ
  pub failures : ℕ
  pub fault : Option ByteFault
  pub full : Bool
  pub sync_failed : Bool

-- THE PAGES THAT BYTES ARE, a row behind the other, each read so
unfoldable pub read_rows : (List ℕ → Page) → ℕ → ℕ → List ℕ → Image
read_rows reads size rows bytes = map (λ row. reads (piece size row bytes)) (range_with_len 0 rows)

-- as a store holds them
abbrev pub held_in : {F : Type 0} → (F → Bytes) → (List ℕ → Page) → Rows F → Held
held_in held reads r = record {
  geometry = r.geometry;
  pages = read_rows reads r.size (row_count r.geometry) (held r.file).bytes;
  durable = read_rows reads r.size (row_count r.geometry) (held r.file).durable;
}

-- how many syncs have failed
abbrev pub syncs_lost : Bool → ℕ
syncs_lost false = 0
syncs_lost true = 1

-- WHETHER THEY ARE KEPT, where they are read so: the file is honest and rows that were torn tell themselves, and no sync of it has failed but one of ours,
-- after which none is asked for
unfoldable pub is_kept : {F : Type 0} → (F → Bytes) → (F → Bool) → (F → ℕ → (List ℕ → Page) → Bool) → (List ℕ → Page) → Rows F → Bool
is_kept held honest tells reads r = honest r.file && (tells r.file r.size reads && ((held r.file).failed_syncs == syncs_lost r.sync_failed))

-- what is true of its parts: it has the bytes of all rows, and would have so many if the power went
pub record AreRows (honest : Bool) (s : Bytes) (g : Geometry) (size : ℕ) (erased : List ℕ) (failures : ℕ) (fault : Option ByteFault) (sync_failed : Bool) : Type 0 where
  pub whole : honest ≡ true → length s.bytes ≡ row_count g * size
  pub lasts : honest ≡ true → s.failed_syncs ≡ syncs_lost sync_failed → length s.durable ≡ row_count g * size
  pub fit : honest ≡ true → HoldsOnlyBytes s
  pub blank : erased ≡ replicate (g.pages * size) 255
  pub told : (failures ≡ 0 → fault ≡ None) × (fault ≡ None → failures ≡ 0)

-- bytes of a row are read as a page of the die, and bytes FFh as an erased one
pub record IsReading (g : Geometry) (size : ℕ) (reads : List ℕ → Page) : Type 0 where
  pub pages : (bytes : List ℕ) → length bytes ≡ size → ((i : ℕ) → slice_index bytes i < 256) → IsPage g (reads bytes)
  pub erased : reads (replicate size 255) ≡ erased_page g

-- ---- why a call failed

-- whether there was no room for a change, by the file's answer. After a sync that failed it is not asked
abbrev pub lacks_room : (changes sync_failed : Bool) → Result (Unit {0}) ByteFault → Bool
lacks_room true false (Err fault.NoSpace) = true
lacks_room _ _ _ = false

-- where no call had failed before, this fault is remembered
abbrev pub Remembers : {F : Type 0} → (old new : Rows F) → ByteFault → Type 0
Remembers old new why = old.fault ≡ None → new.fault ≡ Some why

-- A CHANGE THAT FAILED did so by a fault of the file's last write, by its own word for one; and for want of room just where that was the fault, and no sync
-- has failed
pub record TellsFull {F : Type 0} (wrote : F → ℕ → List ℕ → Result ℕ ByteFault → F → Type 0) (old new : Rows F) : Type 0 where
  pub why : ByteFault
  pub fails : WritesFailBy wrote why new.file
  pub full : new.full ≡ lacks_room true old.sync_failed (Err why)
  pub first : Remembers old new why

-- A READ OF A ROW THAT FAILED did so where the reads of its bytes had ended, by the file's own word for one
pub record TellsEnd {F : Type 0} (gave : F → ℕ → ℕ → Result (List ℕ) ByteFault → F → Type 0) (row size : ℕ) (old new : Rows F) : Type 0 where
  pub why : ByteFault
  pub ended : HasEnded gave old.file (row * size) size why new.file
  pub first : Remembers old new why

-- A BLOCK WAS MADE FFh by writes that took so many bytes FFh as its rows have, from its first row on, by the file's own word for one
abbrev pub BlanksBlock : {F : Type 0} → (wrote : F → ℕ → List ℕ → Result ℕ ByteFault → F → Type 0) → (block : ℕ) → (old new : Rows F) → Type 0
BlanksBlock wrote block old new = (let n : ℕ = old.geometry.pages * old.size in TakesBytes wrote old.file (block * old.geometry.pages * old.size) (replicate n 255) n new.file)

-- or by writes that took fewer, where it failed
abbrev pub BlanksFewer : {F : Type 0} → (wrote : F → ℕ → List ℕ → Result ℕ ByteFault → F → Type 0) → (block : ℕ) → (old new : Rows F) → Type 0
BlanksFewer wrote block old new = (let n : ℕ = old.geometry.pages * old.size in TakesFewer wrote old.file (block * old.geometry.pages * old.size) (replicate n 255) new.file)

-- A SYNC THAT FAILED did so as the file's, by its own word for one, or comes after one that failed
pub record FailsSync {F : Type 0} (refused : F → ByteFault → F → Type 0) (old new : Rows F) : Type 0 where
  pub why : ByteFault
  pub refused_by : old.sync_failed ≡ false → refused old.file why new.file
  pub first : Remembers old new why

-- ---- a call

-- WHAT STAYS in any call, and what is counted: a failure is, and the first one's fault is remembered
pub record CountsRowFailures {F : Type 0} (old new : Rows F) (result : Result (Unit {0}) StoreFault) : Type 0 where
  pub geometry : new.geometry ≡ old.geometry
  pub size : new.size ≡ old.size
  pub rising : old.failures ≤ new.failures
  pub settled : OnOk result ((new.failures ≡ old.failures) × (new.fault ≡ old.fault))
  pub rose : OnErr result (HasRisen old.failures new.failures)
  pub first : (fault : ByteFault) → old.fault ≡ Some fault → new.fault ≡ Some fault
