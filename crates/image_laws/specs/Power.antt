-- What a loss of power leaves of an image of which pages were programmed since it was stored, as those of a file that was not synced since.
use Rattle.std.specs.Prelude.{◌≡◌, ◌⊎◌, ◌↔◌, ℕ, ◌+◌, ◌-◌, ◌/◌, ◌%◌, ◌^◌, ◌<◌, ◌≤◌, false, List, length, get_or, slice_get, slice_set, Some, None}
use Rattle.std.specs.List.{Contains}
use Rattle.page_layout.specs.declared.geometry.Geometry.{Geometry}
use Rattle.page_layout.specs.declared.record.Key.{Key}
use Rattle.page_layout.specs.declared.record.Key.TheVariants.{Sector, Translation, Table}
use Rattle.page_layout.specs.declared.record.Record.{Record}
use Rattle.page_layout.specs.Geometry.{entries, row_count, table_pages}
use Rattle.page_layout.specs.Page.{Page, Image, body_at}
use Rattle.page_layout.specs.Sound.{record_of}
use Rattle.page_layout.specs.Key.{key_of}
use Rattle.page_layout.specs.Newest.{newest}
use Rattle.page_layout.specs.OneArray.{AreBelow}
use Rattle.page_layout.specs.Array.{marks, content_at, sector_of, array_of, HasOneArray}
use Rattle.page_layout.specs.Change.{IsUnsoundAt}
use Rattle.bad_blocks.specs.TablePage.{IsWellFormed}
use Rattle.translation_pages.specs.TranslationPage.{entry_at}
use Rattle.translation_pages.specs.Entry.{entry_of}
use Rattle.image_check.specs.declared.refusal.Refusal.{Refusal}
use Rattle.image_check.specs.declared.refusal.Refusal.TheVariants as refusals
use Rattle.image_check.specs.Agrees.{HasTables}
use Rattle.image_check.specs.Stale.{is_stale, stale_count}
use Rattle.image_check.specs.Mountable.{IsMountable}
use Rattle.image_check.specs.Refused.{StopsCheck}
use Rattle.mount.specs.Mounted.{Refuses}

-- SINCE IT WAS STORED pages were programmed alone: each that had a record is as it was
pub record Grows (stored left : Image) : Type 0 where
  pub size : length left ≡ length stored
  pub kept : (row : ℕ) (r : Record) → get_or (marks stored) row None ≡ Some r → slice_get left row ≡ slice_get stored row

-- WHAT IS FOUND: each page as it was left, or without a record where it had none when the image was stored
pub record LosesSince (stored left found : Image) : Type 0 where
  pub size : length found ≡ length left
  pub rows : (row : ℕ) → (slice_get found row ≡ slice_get left row) ⊎ (IsUnsoundAt stored row × IsUnsoundAt found row)

-- an image that was stored, what was made of it, and what a loss of power left of that
pub record LosesPower (g : Geometry) (stored left found : Image) : Type 0 where
  pub one : HasOneArray g left
  pub grows : Grows stored left
  pub loses : LosesSince stored left found

-- a page of this key that was programmed since
pub record IsPageSince (stored left : Image) (key : Key) (row : ℕ) : Type 0 where
  pub none : IsUnsoundAt stored row
  pub its : Record
  pub has : get_or (marks left) row None ≡ Some its
  pub of : key_of its ≡ key

-- ---- what may be

-- a page programmed where none was stored
abbrev pub ProgramGrowsLaw : Type 0
ProgramGrowsLaw = (stored left : Image) (row : ℕ) (p : Page) → Grows stored left → IsUnsoundAt stored row → Grows stored (slice_set left row p)

-- nothing may be missing, or all that was programmed since
abbrev pub NothingMissingLaw : Type 0
NothingMissingLaw = (stored left : Image) → LosesSince stored left left

abbrev pub AllLostLaw : Type 0
AllLostLaw = (stored left : Image) → Grows stored left → LosesSince stored left stored

-- or one page more, torn in whatever way
abbrev pub OneMoreLostLaw : Type 0
OneMoreLostLaw = (stored left found : Image) (row : ℕ) (p : Page) → LosesSince stored left found → IsUnsoundAt stored row → record_of p ≡ None → LosesSince stored left (slice_set found row p)

-- ---- what is found

-- what is found is one array
abbrev pub FoundOneLaw : Type 0
FoundOneLaw = (g : Geometry) (stored left found : Image) → LosesPower g stored left found → HasOneArray g found

-- NOTHING THAT WAS STORED IS LOST: a key that had a newest page has one
abbrev pub StoredNotLostLaw : Type 0
StoredNotLostLaw = (g : Geometry) (stored left found : Image) (key : Key) (q : ℕ) → LosesPower g stored left found → newest (marks stored) key ≡ Some q
    → (row : ℕ) × (newest (marks found) key ≡ Some row)

-- and its newest page is the one that it had, or one that was programmed since; it is as it was left
abbrev pub NewestSinceLaw : Type 0
NewestSinceLaw = (g : Geometry) (stored left found : Image) (key : Key) (row : ℕ) → LosesPower g stored left found → newest (marks found) key ≡ Some row
    → (slice_get found row ≡ slice_get left row) × ((newest (marks stored) key ≡ Some row) ⊎ IsUnsoundAt stored row)

-- EACH SECTOR reads as when the image was stored, or as a page of it that was programmed since
abbrev pub EitherLaw : Type 0
EitherLaw = (g : Geometry) (stored left found : Image) (n : ℕ) → LosesPower g stored left found
    → (sector_of g found n ≡ sector_of g stored n) ⊎ ((row : ℕ) × IsPageSince stored left (Sector n) row × (sector_of g found n ≡ content_at g left (Some row)))

-- a sector of which no newer page was programmed since reads as it did
abbrev pub UnwrittenLaw : Type 0
UnwrittenLaw = (g : Geometry) (stored left found : Image) (n : ℕ) → LosesPower g stored left found → newest (marks left) (Sector n) ≡ newest (marks stored) (Sector n)
    → sector_of g found n ≡ sector_of g stored n

-- so where all was stored the array is as it was
abbrev pub AllStoredLaw : Type 0
AllStoredLaw = (g : Geometry) (stored found : Image) → LosesPower g stored stored found → array_of g found ≡ array_of g stored

-- ---- that it mounts

-- WHAT MOUNTED WHEN IT WAS STORED, AND SINCE: each table page was there and well formed, each that was programmed since is well formed, and no
-- page has the last sequence
pub record MountedSince (g : Geometry) (stored left : Image) : Type 0 where
  pub tables : HasTables g stored
  pub formed : (u row : ℕ) → u < table_pages g → IsPageSince stored left (Table u) row → IsWellFormed (entries g) g.blocks u (body_at left row)
  pub last : AreBelow (marks left) (2 ^ 64 - 1)

-- so it is of an image that mounts, whatever the cache
abbrev pub StoredMountsLaw : Type 0
StoredMountsLaw = (g : Geometry) (capacity : ℕ) (stored : Image) → IsMountable g capacity stored → MountedSince g stored stored

-- and after each program that leaves one, with its page the newest of its key: so it holds where the die could have been stopped after any
-- program since
abbrev pub ProgramMountsLaw : Type 0
ProgramMountsLaw = (g : Geometry) (capacity : ℕ) (stored left : Image) (row : ℕ) (p : Page) → MountedSince g stored left → IsMountable g capacity (slice_set left row p)
    → ((r : Record) → record_of p ≡ Some r → newest (marks (slice_set left row p)) (key_of r) ≡ Some row) → MountedSince g stored (slice_set left row p)

-- WHAT IS FOUND MOUNTS, just where the cache has room for all that is stale
abbrev pub FoundMountsLaw : Type 0
FoundMountsLaw = (g : Geometry) (capacity : ℕ) (stored left found : Image) → length left ≡ row_count g → 1 ≤ capacity → capacity ≤ 65536
    → LosesPower g stored left found → MountedSince g stored left → IsMountable g capacity found ↔ (stale_count g found ≤ capacity)

-- else it is refused for that alone, with how many are stale, unless something stops the mount
abbrev pub FoundRefusedLaw : Type 0
FoundRefusedLaw = (g : Geometry) (capacity : ℕ) (stored left found : Image) (r : Refusal) → LosesPower g stored left found → MountedSince g stored left
    → Refuses g capacity found r → StopsCheck r ⊎ (r ≡ refusals.TooStale (stale_count g found) capacity)

-- ---- how much is stale

-- EACH TRANSLATION PAGE THAT WAS PROGRAMMED SINCE has the entry from then of a sector that wasn't stale and of which no page was programmed since
pub record KeepsEntries (g : Geometry) (stored left : Image) : Type 0 where
  pub entry : (n row : ℕ) → n < g.sectors → is_stale g stored n ≡ false → ((q : ℕ) → ¬ IsPageSince stored left (Sector n) q) → IsPageSince stored left (Translation (n / entries g)) row
      → entry_at (body_at left row) (n % entries g) ≡ entry_of g stored n

-- as where nothing was programmed since
abbrev pub StoredEntriesLaw : Type 0
StoredEntriesLaw = (g : Geometry) (stored : Image) → KeepsEntries g stored stored

-- a translation page with this body has for each of its sectors the row of the newest page, or the entry that there was
abbrev pub HasEntries : Geometry → Image → List ℕ → ℕ → Type 0
HasEntries g image body t = (n : ℕ) → n < g.sectors → n / entries g ≡ t
    → (entry_at body (n % entries g) ≡ newest (marks image) (Sector n)) ⊎ (entry_at body (n % entries g) ≡ entry_of g image n)

-- and after each program of a page that had no record, a translation page with such entries
abbrev pub ProgramEntriesLaw : Type 0
ProgramEntriesLaw = (g : Geometry) (stored left : Image) (row : ℕ) (p : Page) → HasOneArray g left → Grows stored left → KeepsEntries g stored left → IsUnsoundAt left row
    → ((r : Record) (t : ℕ) → record_of p ≡ Some r → key_of r ≡ Translation t → HasEntries g left p.body t) → KeepsEntries g stored (slice_set left row p)

-- SO MANY ARE STALE AT MOST: as many as when the image was stored, and the sectors of which a page was programmed since
abbrev pub FoundStaleLaw : Type 0
FoundStaleLaw = (g : Geometry) (stored left found : Image) (programmed : List ℕ) → LosesPower g stored left found → KeepsEntries g stored left
    → ((n row : ℕ) → n < g.sectors → IsPageSince stored left (Sector n) row → Contains programmed n) → stale_count g found ≤ stale_count g stored + length programmed
