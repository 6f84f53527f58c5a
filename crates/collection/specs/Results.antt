-- What the answers of the engine's functions say.
use Rattle.std.specs.Prelude.{◌≡◌, ◌≢◌, ◌⊎◌, ℕ, ◌-◌, ◌/◌, ◌<◌, ◌≤◌, true, false, List, [], ◌∷◌, slice_set, Option, Some, None, Result, Ok, Err, IsSomeAnd}
use Rattle.page_layout.specs.declared.geometry.Geometry.{Geometry}
use Rattle.page_layout.specs.declared.record.Record.{Record}
use Rattle.page_layout.specs.declared.record.Kind.{Kind}
use Rattle.page_layout.specs.declared.record.Kind.TheVariants as kind
use Rattle.page_layout.specs.declared.record.Key.{Key}
use Rattle.page_layout.specs.declared.record.Key.TheVariants.{Translation, Table}
use Rattle.page_layout.specs.Page.{Page, Image, body_at}
use Rattle.page_layout.specs.Sound.{record_of, version_for}
use Rattle.page_layout.specs.Key.{key_of, key_from}
use Rattle.page_layout.specs.OneArray.{AreBelow}
use Rattle.page_layout.specs.Live.{IsKeyOf}
use Rattle.page_layout.specs.Array.{marks, zeros, content_of_kind, array_of, HasOneArray}
use Rattle.page_layout.specs.Version.{is_old, AddsNoOld}
use Rattle.page_layout.specs.Flash.{Flash, Program, Steps}
use Rattle.page_layout.specs.Recording.{Recording, Records}
use Rattle.page_layout.specs.Change.{IsUnsoundAt, Keeps, Writes}
use Rattle.onfi_cycles.specs.declared.nand.Outcome.{Outcome}
use Rattle.onfi_cycles.specs.Outcomes.{is_passed}
use Rattle.bad_blocks.specs.Table.{wear_at, good_count}
use Rattle.bad_blocks.specs.declared.table.TableRow.{TableRow}
use Rattle.allocation.specs.State.{State}
use Rattle.allocation.specs.Laws.{IsLeftButLive}
use Rattle.collection.specs.declared.fault.EngineFault.{EngineFault}
use Rattle.collection.specs.declared.fault.EngineFault.TheVariants.{ReadOnly, SequenceSpent, Damaged, Bus}
use Rattle.collection.specs.State.{Ram}
use Rattle.collection.specs.Pages.{newest_row}
use Rattle.collection.specs.Maps.{IsPageFor}
use Rattle.collection.specs.Looks.{HasRightEntries}
use Rattle.collection.specs.Truth.{IsTrue}
use Rattle.collection.specs.Tables.{SpellsTable}
use Rattle.collection.specs.Safe.{is_shut}

-- ---- one program

-- a page of this record may be programmed in the row
pub record CanProgram (g : Geometry) (row : ℕ) (r : Record) (image : Image) : Type 0 where
  pub one : HasOneArray g image
  pub unsound : IsUnsoundAt image row
  pub below : AreBelow (marks image) r.sequence
  pub in_range : IsKeyOf g (key_of r)

-- a program of the row, of a page with this sequence, was one step of the die's log, and is what the record has gained
pub record IsStep (row sequence : ℕ) (outcome : Outcome) (old : Flash) (told : Option Recording) (new : Flash) (told' : Option Recording) : Type 0 where
  pub its : Page
  pub left : Page
  pub numbered : IsSomeAnd (record_of its) (λ (r : Record). r.sequence ≡ sequence)
  pub step : Steps old (Program row its (is_passed outcome) left) new
  pub records : Records told (Program row its (is_passed outcome) left ∷ []) told'

-- ---- what a call leaves, where the die is honest

-- nothing that counts has changed
pub record IsImageKept (old : Ram) (before : Image) (new : Ram) (after : Image) : Type 0 where
  pub truth : IsTrue None new after
  pub keeps : Keeps old.geometry before after

-- the record of the last page that was programmed
abbrev pub last_record : Kind → ℕ → ℕ → Ram → Record
last_record kind n row r = record { kind = kind; number = n; sequence = r.next - 1; wear = wear_at r.blocks.table (row / r.geometry.pages) }

-- the page is the last one that was programmed: sound, of this kind and number, with the sequence before the next one
pub record IsLastPage (kind : Kind) (n : ℕ) (new : Ram) (p : Page) : Type 0 where
  pub its : Record
  pub sound : record_of p ≡ Some its
  pub of_kind : its.kind ≡ kind
  pub of_number : its.number ≡ n
  pub last : its.sequence ≡ new.next - 1

-- a page of the key stands in this row; the key's entry in memory is the caller's to set
pub record IsPut (kind : Kind) (n row : ℕ) (body : List ℕ) (old : Ram) (before : Image) (new : Ram) (after : Image) : Type 0 where
  pub truth : IsTrue (Some (key_from kind n)) new after
  pub writes : Writes old.geometry (last_record kind n row new) row body before after

-- the sectors after it: a page of kind Sector gives its sector the data area, a trim 00h bytes, and no other page changes one
abbrev pub array_after : Geometry → Kind → ℕ → List ℕ → List (List ℕ) → List (List ℕ)
array_after g kind.Sector n body sectors = slice_set sectors n body
array_after g kind.Trim n body sectors = slice_set sectors n (zeros g)
array_after g kind.Translation n body sectors = sectors
array_after g kind.Table n body sectors = sectors

-- what IsPut says, and the key's entry is set
pub record IsReplaced (kind : Kind) (n row : ℕ) (body : List ℕ) (old : Ram) (before : Image) (new : Ram) (after : Image) : Type 0 where
  pub truth : IsTrue None new after
  pub writes : Writes old.geometry (last_record kind n row new) row body before after

-- Each newest page is where it was, or in a block that was neither bad nor closed. Where the die has version 2, no newest page of version 1 is
-- added.
pub record LeavesNewest (r : Ram) (old new : Image) : Type 0 where
  pub each : (key : Key) → (newest_row new key ≡ newest_row old key) ⊎ ((row : ℕ) → newest_row new key ≡ Some row → is_shut r.blocks (row / r.geometry.pages) ≡ false)
  pub versions : AddsNoOld r.geometry old new

-- the newest page of the key stays as it is: in its row, and of the version that it had
pub record KeepsPage (key : Key) (before after : Image) : Type 0 where
  pub row : newest_row after key ≡ newest_row before key
  pub version : is_old after key ≡ is_old before key

-- the array is as it was
pub record IsSame (old : Ram) (before : Image) (new : Ram) (after : Image) : Type 0 where
  pub truth : IsTrue None new after
  pub array : array_of old.geometry after ≡ array_of old.geometry before
  pub leaves : LeavesNewest old before after

-- after a fault: where the die gave none, nothing that counts has changed, and nothing was damaged
abbrev pub Refused : Ram → Image → Ram → Image → EngineFault → Type 0
Refused old before new after ReadOnly = IsSame old before new after
Refused old before new after SequenceSpent = IsSame old before new after
Refused old before new after Damaged = ⊥
Refused old before new after Bus = Unit {0}

-- what must be known for a page of the key with this data area to be programmed
pub record MayPut (kind : Kind) (n : ℕ) (old_row : Option ℕ) (body : List ℕ) (r : Ram) (image : Image) : Type 0 where
  pub truth : IsTrue None r image
  pub page_for : IsPageFor r.geometry image r.mapping body (key_from kind n)
  pub old_row_is : old_row ≡ newest_row image (key_from kind n)

-- one attempt: the row, where it passed
abbrev pub Attempted : Kind → ℕ → List ℕ → Ram → Image → Ram → Image → Option ℕ → Type 0
Attempted kind n body old before new after None = IsImageKept old before new after
Attempted kind n body old before new after (Some row) = IsPut kind n row body old before new after

-- the sector holds what was handed in, in a newest page of this kind
pub record IsWritten (kind : Kind) (n : ℕ) (body : List ℕ) (old : Ram) (before : Image) (new : Ram) (after : Image) : Type 0 where
  pub truth : IsTrue None new after
  pub array : array_of old.geometry after ≡ slice_set (array_of old.geometry before) n (content_of_kind old.geometry kind body)
  pub leaves : LeavesNewest old before after
  pub row : ℕ
  pub writes : Writes old.geometry (last_record kind n row new) row body before after

-- The array is as it was, each other newest page stays as it is, and the newest translation page t has the row of each of its sectors, and none past
-- the last sector. It is in version 2 where the die has it.
pub record IsWrittenBack (t : ℕ) (old : Ram) (before : Image) (new : Ram) (after : Image) : Type 0 where
  pub same : IsSame old before new after
  pub others : (key : Key) → key ≢ Translation t → KeepsPage key before after
  pub row : ℕ
  pub newest_is : newest_row after (Translation t) ≡ Some row
  pub filled : HasRightEntries t (body_at after row) old.geometry after
  pub renewed : version_for old.geometry ≡ 2 → is_old after (Translation t) ≡ false

-- the array is as it was, the newest table page u spells the table that was, in version 2 where the die has it, and each other one spells what
-- it spelled
pub record IsTabled (u : ℕ) (old : Ram) (before : Image) (new : Ram) (after : Image) : Type 0 where
  pub same : IsSame old before new after
  pub now : SpellsTable old.geometry old.blocks.table after u
  pub others : (v : ℕ) (rows : List TableRow) → v ≢ u → SpellsTable old.geometry rows before v → SpellsTable old.geometry rows after v
  pub renewed : version_for old.geometry ≡ 2 → is_old after (Table u) ≡ false

-- ---- what every call leaves alone, whatever the die does

-- bad and closed blocks are as they were, but for the count of their live pages
pub record Goes (old new : Ram) : Type 0 where
  pub geometry : new.geometry ≡ old.geometry
  pub next : old.next ≤ new.next
  pub shut : (b : ℕ) → b < old.geometry.blocks → is_shut old.blocks b ≡ true → IsLeftButLive old.blocks new.blocks b

-- where no more blocks are bad, the table is as it was
pub record KeepsTable (old new : State) : Type 0 where
  pub fewer : good_count new.table ≤ good_count old.table
  pub same : good_count new.table ≡ good_count old.table → new.table ≡ old.table

-- and what a put leaves alone besides
pub record GoesPut (old new : Ram) : Type 0 where
  pub goes : Goes old new
  pub table : KeepsTable old.blocks new.blocks
  pub directory : new.directory ≡ old.directory
  pub mapping : new.mapping ≡ old.mapping
  pub pin : new.pin ≡ old.pin

-- ---- the fault that stands

-- the fault after a call: the one that it answers, or the one that stood
abbrev pub fault_after : {A : Type 0} → Option EngineFault → Result A EngineFault → Option EngineFault
fault_after fault (Ok answer) = fault
fault_after fault (Err new) = Some new
