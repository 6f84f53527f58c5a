-- How an operation of the die may change an image, and what is left of what the image means.
use Rattle.std.specs.Prelude.{◌≡◌, ◌≢◌, ◌⊎◌, ℕ, ◌+◌, ◌/◌, ◌<◌, ◌==◌, Bool, true, false, if◌then◌else◌, List, length, replicate, slice_get, slice_set}
use Rattle.std.specs.Prelude.{get_or, None, Some}
use Rattle.page_layout.specs.declared.record.Record.{Record}
use Rattle.page_layout.specs.declared.record.Key.{Key}
use Rattle.page_layout.specs.declared.record.Key.TheVariants.{Sector}
use Rattle.page_layout.specs.declared.geometry.Geometry.{Geometry}
use Rattle.page_layout.specs.Page.{Page, Image, page, body_at}
use Rattle.page_layout.specs.Sound.{record_of, version_for, is_erased_page}
use Rattle.page_layout.specs.Key.{key_of}
use Rattle.page_layout.specs.Newest.{newest}
use Rattle.page_layout.specs.OneArray.{AreBelow}
use Rattle.page_layout.specs.Live.{live, is_in_block}
use Rattle.page_layout.specs.Array.{marks, sector_of, content_of_kind, HasOneArray}
use Rattle.page_layout.specs.Version.{version_at}

-- the row's page has no sound record
abbrev pub IsUnsoundAt : Image → ℕ → Type 0
IsUnsoundAt image row = get_or (marks image) row None ≡ None

-- the row's page is erased
pub record IsErasedAt (image : Image) (row : ℕ) : Type 0 where
  pub its : Page
  pub at : slice_get image row ≡ Some its
  pub is : is_erased_page its ≡ true

-- ---- the operations

-- a program failed, or was cut short: the page is as it was or has no sound record, all others are as they were
abbrev pub FailsAt : ℕ → Image → Image → Type 0
FailsAt row old new = (new ≡ old) ⊎ ((p : Page) × (new ≡ slice_set old row p) × (record_of p ≡ None))

-- an erase failed, or was cut short: each page of the block is as it was or has no sound record, and all others are as they were
pub record LosesIn (pages block : ℕ) (old new : Image) : Type 0 where
  pub length_same : length new ≡ length old
  pub others : (row : ℕ) → row / pages ≢ block → slice_get new row ≡ slice_get old row
  pub inside : (row : ℕ) → row / pages ≡ block → (slice_get new row ≡ slice_get old row) ⊎ IsUnsoundAt new row

-- a page as an erase leaves it
abbrev pub erased_page : Geometry → Page
erased_page g = page (replicate g.data_bytes 255) (replicate g.spare_bytes 255)

-- an erase passed
pub record ErasesIn (g : Geometry) (block : ℕ) (old new : Image) : Type 0 where
  pub length_same : length new ≡ length old
  pub others : (row : ℕ) → row / g.pages ≢ block → slice_get new row ≡ slice_get old row
  pub inside : (row : ℕ) → row / g.pages ≡ block → row < length old → slice_get new row ≡ Some (erased_page g)

-- ---- what they mean

-- one where the test passes
abbrev pub one_if : Bool → ℕ
one_if b = if b then 1 else 0

-- Nothing that counts has changed: each key has its newest page where it was, with the data area and the version that it had, each sector and
-- each live count is as it was, a page that had no record has none, and a record that a page has it had before.
pub record Keeps (g : Geometry) (old new : Image) : Type 0 where
  pub size : length new ≡ length old
  pub newest_same : (key : Key) → newest (marks new) key ≡ newest (marks old) key
  pub bodies : (key : Key) (row : ℕ) → newest (marks old) key ≡ Some row → body_at new row ≡ body_at old row
  pub versions : (key : Key) (row : ℕ) → newest (marks old) key ≡ Some row → version_at new row ≡ version_at old row
  pub sector_same : (n : ℕ) → sector_of g new n ≡ sector_of g old n
  pub live_same : (block : ℕ) → live g (marks new) block ≡ live g (marks old) block
  pub one : HasOneArray g new
  pub unsound : (row : ℕ) → IsUnsoundAt old row → IsUnsoundAt new row
  pub records : (row : ℕ) (x : Record) → get_or (marks new) row None ≡ Some x → get_or (marks old) row None ≡ Some x
  pub below : (next : ℕ) → AreBelow (marks old) next → AreBelow (marks new) next

-- The row has a page with this record and this data area, in the version for the die, which is now the newest of its key; a sector of that
-- key reads by it. Nothing else that counts has changed, and no record is newer.
pub record Writes (g : Geometry) (r : Record) (row : ℕ) (body : List ℕ) (old new : Image) : Type 0 where
  pub size : length new ≡ length old
  pub newest_now : newest (marks new) (key_of r) ≡ Some row
  pub newest_others : (other : Key) → key_of r ≢ other → newest (marks new) other ≡ newest (marks old) other
  pub record_here : get_or (marks new) row None ≡ Some r
  pub here : body_at new row ≡ body
  pub version_here : version_at new row ≡ Some (version_for g)
  pub bodies : (other : Key) (q : ℕ) → key_of r ≢ other → newest (marks old) other ≡ Some q → body_at new q ≡ body_at old q
  pub versions : (other : Key) (q : ℕ) → key_of r ≢ other → newest (marks old) other ≡ Some q → version_at new q ≡ version_at old q
  pub sector_now : (n : ℕ) → key_of r ≡ Sector n → sector_of g new n ≡ content_of_kind g r.kind body
  pub sector_others : (n : ℕ) → key_of r ≢ Sector n → sector_of g new n ≡ sector_of g old n
  pub live_moved : (block : ℕ) → live g (marks new) block + one_if (is_in_block g.pages block (newest (marks old) (key_of r))) ≡ live g (marks old) block + one_if (row / g.pages == block)
  pub one : HasOneArray g new
  pub unsound : (q : ℕ) → q ≢ row → IsUnsoundAt old q → IsUnsoundAt new q
  pub records : (q : ℕ) (x : Record) → q ≢ row → get_or (marks new) q None ≡ Some x → get_or (marks old) q None ≡ Some x
  pub below : AreBelow (marks new) (r.sequence + 1)

-- what a program of a page with this record and this data area did, by its outcome: it wrote, or nothing that counts has changed
abbrev pub ProgramMeans : Geometry → Record → ℕ → List ℕ → Bool → Image → Image → Type 0
ProgramMeans g r row body true old new = Writes g r row body old new
ProgramMeans g r row body false old new = Keeps g old new

-- no key has its newest page in the block
pub record HoldsNone (pages block : ℕ) (image : Image) : Type 0 where
  pub none : (key : Key) (row : ℕ) → newest (marks image) key ≡ Some row → row / pages ≢ block
