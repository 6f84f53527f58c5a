-- What an image is worth once a device was flushed.
use Rattle.std.specs.Prelude.{◌≡◌, ◌⊎◌, ◌↔◌, ℕ, ◌+◌, ◌-◌, ◌*◌, ◌/◌, ◌^◌, ◌<◌, ◌≤◌, min, Bool, true, false, List, [], Some, None}
use Rattle.page_layout.specs.declared.geometry.Geometry.{Geometry}
use Rattle.page_layout.specs.declared.record.Key.TheVariants.{Table}
use Rattle.page_layout.specs.Page.{Image}
use Rattle.page_layout.specs.Flash.{Operation}
use Rattle.page_layout.specs.Geometry.{entries, translation_pages, table_pages, waiting_at}
use Rattle.page_layout.specs.Sound.{version_for}
use Rattle.page_layout.specs.Version.{is_old}
use Rattle.bad_blocks.specs.Table.{wear_at, good_count, most_wear}
use Rattle.budget.specs.Counts.{Counts}
use Rattle.budget.specs.Spending.{Spending}
use Rattle.mapping_cache.specs.Mapping.{MappingState, pending}
use Rattle.allocation.specs.State.{free_count}
use Rattle.allocation.specs.Counts.{counts_of}
use Rattle.promises.specs.Log.{bad_of, passed_erases_of}
use Rattle.image_check.specs.Blocks.{class, erase_count}
use Rattle.image_check.specs.Stale.{stale_sectors}
use Rattle.image_check.specs.Mountable.{IsMountable}
use Rattle.collection.specs.State.{Ram}
use Rattle.collection.specs.Safe.{IsRam}
use Rattle.collection.specs.Truth.{IsTrue}
use Rattle.collection.specs.Tables.{SpellsTable}
use Rattle.collection.specs.Cost.{HasRunOut}
use Rattle.budget.specs.declared.stream.Stream.TheVariants.{Meta}
use Rattle.ftl_device.specs.declared.fault.DeviceFault.{DeviceFault}
use Rattle.ftl_device.specs.declared.fault.DeviceFault.TheVariants.{OutOfRange, ReadOnly, SequenceSpent, OutOfMemory, Damaged, BusFault}
use Rattle.ftl_device.specs.Calls.{KeepsArray, IsShortOf, stop_of}
use Rattle.ftl_device.specs.Counts.{is_bad_by}

-- no sector waits for its translation page, cached dirty or moved, and each newest table page spells the table as the memory has it
pub record IsFlushed (r : Ram) (image : Image) : Type 0 where
  pub clean : (n : ℕ) → n < r.geometry.sectors → pending r.mapping n ≡ None
  pub tables : (u : ℕ) → u < table_pages r.geometry → SpellsTable r.geometry r.blocks.table image u

-- ---- inside a flush

-- translation page t lacks no row
pub record IsClean (g : Geometry) (t : ℕ) (m : MappingState) : Type 0 where
  pub none : (n : ℕ) → n / entries g ≡ t → pending m n ≡ None

-- a translation page that lacked no row lacks none
pub record KeepsClean (g : Geometry) (old new : MappingState) : Type 0 where
  pub still : (t : ℕ) → t < translation_pages g → IsClean g t old → IsClean g t new

-- so many pages more were programmed in the meta stream than before
pub record AddsPages (count : ℕ) (old new : Ram) : Type 0 where
  pub account : (first : Counts) (pages : ℕ) → Spending old.geometry.pages first (counts_of old.blocks) 0 pages → Spending old.geometry.pages first (counts_of new.blocks) 0 (pages + count)

-- at most so many
pub record AddsAtMost (most : ℕ) (old new : Ram) : Type 0 where
  pub pages : ℕ
  pub few : pages ≤ most
  pub fewer : good_count new.blocks.table ≤ good_count old.blocks.table
  pub adds : AddsPages pages old new

-- where the die has version 2, none of the first so many table pages has a newest page of version 1
abbrev pub HasNewTables : ℕ → Geometry → Image → Type 0
HasNewTables count g image = version_for g ≡ 2 → (u : ℕ) → u < count → is_old image (Table u) ≡ false

-- the array is as it was, the newest of the first so many table pages are new, and where no block has failed they spell the table
pub record KeepsTables (count : ℕ) (old : Ram) (before : Image) (new : Ram) (after : Image) : Type 0 where
  pub keeps : KeepsArray old.geometry before new after
  pub tables : good_count new.blocks.table ≡ good_count old.blocks.table → (u : ℕ) → u < count → SpellsTable old.geometry new.blocks.table after u
  pub renewed : HasNewTables count old.geometry after

-- the array is as it was, and each newest table page is new and spells the table
pub record SpellsAll (g : Geometry) (before : Image) (new : Ram) (after : Image) : Type 0 where
  pub keeps : KeepsArray g before new after
  pub tables : (u : ℕ) → u < table_pages g → SpellsTable g new.blocks.table after u
  pub renewed : HasNewTables (table_pages g) g after

-- some of so many pages were programmed, and the next one found no block
pub record FailsAmong (most : ℕ) (old new : Ram) : Type 0 where
  pub mid : Ram
  pub geometry : mid.geometry ≡ old.geometry
  pub pages : ℕ
  pub few : pages + 1 ≤ most
  pub fewer : good_count mid.blocks.table ≤ good_count old.blocks.table
  pub used : AddsPages pages old mid
  pub out : HasRunOut Meta mid new

-- table pages end for want of a block only after failures: half as many as there were free blocks
abbrev pub RunsOut : Ram → Ram → Type 0
RunsOut old new = free_count old.blocks + 2 * good_count new.blocks.table ≤ 2 * good_count old.blocks.table + 1

-- All table pages were written, and again as often as a block failed meanwhile, at most: they opened one block, and two more for each
-- failure, at most.
pub record WritesTables (old new : Ram) : Type 0 where
  pub rounds : ℕ
  pub few : rounds + good_count new.blocks.table ≤ good_count old.blocks.table + 1
  pub account : Spending old.geometry.pages (counts_of old.blocks) (counts_of new.blocks) 0 (rounds * table_pages old.geometry)
  pub openings : free_count old.blocks + 2 * good_count new.blocks.table ≤ free_count new.blocks + 2 * good_count old.blocks.table + 1

-- ---- the device around it

-- what is so of a device that may be flushed
pub record MayFlush (r : Ram) (ro : Bool) : Type 0 where
  pub going : r.fault ≡ None
  pub writable : ro ≡ false
  pub sequence : r.next < 2 ^ 64 - 1

pub record IsShut (r : Ram) (ro : Bool) (good wanted failed : ℕ) : Type 0 where
  pub going : stop_of r.fault ≡ None
  pub closed : ro ≡ true
  pub short : IsShortOf r r good wanted failed

pub record IsSpentOf (r : Ram) (ro : Bool) : Type 0 where
  pub going : stop_of r.fault ≡ None
  pub writable : ro ≡ false
  pub last : r.next ≡ 2 ^ 64 - 1

-- why it may not
abbrev pub MayNotFlush : Ram → Bool → DeviceFault → Type 0
MayNotFlush r ro OutOfRange = ⊥
MayNotFlush r ro (ReadOnly good wanted failed) = IsShut r ro good wanted failed
MayNotFlush r ro SequenceSpent = IsSpentOf r ro
MayNotFlush r ro OutOfMemory = ⊥
MayNotFlush r ro Damaged = stop_of r.fault ≡ Some Damaged
MayNotFlush r ro BusFault = stop_of r.fault ≡ Some BusFault

-- ---- what it is worth

-- the image shows that the block is bad: a certificate gives it class 4 or 5
abbrev pub ShowsBad : Geometry → Image → ℕ → Type 0
ShowsBad g image block = (class g image block ≡ 4) ⊎ (class g image block ≡ 5)

-- what a run begins with: the geometry, the capacity of the cached mapping table, the share, the bad blocks, the erase counts and the next sequence
pub record First : Type 0 where
  pub geometry : Geometry
  pub capacity : ℕ
  pub share : ℕ
  pub bad : ℕ → Bool
  pub wear : ℕ → ℕ
  pub next : ℕ

-- for how many stale entries an image mounts that is left in it: those that are cached and those that may be moved, and never more than there are sectors
abbrev pub room_in : First → ℕ
room_in first = min first.geometry.sectors (first.capacity + (waiting_at first.geometry first.share + first.geometry.pages))

-- by the memory, where it begins with a device as it is
abbrev pub first_of : Ram → First
first_of r = record { geometry = r.geometry; capacity = r.mapping.capacity; share = r.mapping.share; bad = is_bad_by r; wear = wear_at r.blocks.table; next = r.next }

-- WHAT A FLUSH IS WORTH that is done, where `log` leads up to its end: the image has a certificate at every capacity, no entry is stale, and it
-- shows just the blocks as bad that were so before the log or failed in it, and erase counts that went up by the erases that passed; and where the
-- die has version 2 no newest table page is of version 1.
pub record IsFlushedOut (first : First) (log : List Operation) (image : Image) : Type 0 where
  pub anywhere : (capacity : ℕ) → 1 ≤ capacity → capacity ≤ 65536 → IsMountable first.geometry capacity image
  pub fresh : stale_sectors first.geometry image ≡ []
  pub bad : (b : ℕ) → b < first.geometry.blocks → ShowsBad first.geometry image b ↔ (bad_of first.geometry.pages first.bad log b ≡ true)
  pub wear : (b : ℕ) → b < first.geometry.blocks → erase_count first.geometry image b ≡ min (first.wear b + passed_erases_of log b) most_wear
  pub renewed : version_for first.geometry ≡ 2 → (u : ℕ) → is_old image (Table u) ≡ false

-- ---- laws, of a memory that is true of the image and flushed

-- no entry is stale
abbrev pub NoEntryStaleLaw : Type 0
NoEntryStaleLaw = (r : Ram) (image : Image) → IsTrue None r image → IsFlushed r image → stale_sectors r.geometry image ≡ []

-- the image has a certificate at every capacity
abbrev pub AnywhereLaw : Type 0
AnywhereLaw = (r : Ram) (image : Image) (capacity : ℕ) → IsRam r → IsTrue None r image → IsFlushed r image → 1 ≤ capacity → capacity ≤ 65536 → IsMountable r.geometry capacity image

-- it shows just the blocks as bad that the memory counts as bad
abbrev pub ShownBadLaw : Type 0
ShownBadLaw = (r : Ram) (image : Image) (block : ℕ) → IsRam r → IsTrue None r image → IsFlushed r image → block < r.geometry.blocks → ShowsBad r.geometry image block ↔ (is_bad_by r block ≡ true)

-- and the erase counts that the memory has
abbrev pub ShownWearLaw : Type 0
ShownWearLaw = (r : Ram) (image : Image) (block : ℕ) → IsRam r → IsTrue None r image → IsFlushed r image → block < r.geometry.blocks → erase_count r.geometry image block ≡ wear_at r.blocks.table block
