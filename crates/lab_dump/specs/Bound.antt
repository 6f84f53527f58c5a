-- How many sectors of a dump may be older than the last write: at most as many as it has pages that are neither erased nor sound, and holes, but for
-- those of bad blocks whose pages leave nothing open.
use Rattle.std.specs.Prelude.{◌≡◌, ◌⊎◌, ℕ, ◌/◌, ◌<◌, ◌≤◌, not, Bool, true, false, length, get_or, slice_get, slice_set, count_by, Option, Some, None, is_some}
use Rattle.std.specs.List.{range_with_len}
use Rattle.page_layout.specs.declared.geometry.Geometry.{Geometry}
use Rattle.page_layout.specs.declared.record.Key.TheVariants.{Sector}
use Rattle.page_layout.specs.Page.{Page, Image}
use Rattle.page_layout.specs.Sound.{record_of}
use Rattle.page_layout.specs.Newest.{newest}
use Rattle.page_layout.specs.Array.{marks, sector_of}
use Rattle.page_layout.specs.OneArray.{AreDistinct}
use Rattle.page_layout.specs.Block.{is_broken}
use Rattle.image_check.specs.Blocks.{is_factory, table_class}
use Rattle.lab_dump.specs.Bad.{is_excused, is_rewritten}
use Rattle.lab_dump.specs.Doubts.{is_erased_at, is_programmed_at, is_unsound_at, is_hole, IsHole, doubts_of, most_older}

-- ---- sectors whose newest page is gone

-- whether there is no sound page in this row
abbrev pub is_gone_from : Image → Option ℕ → Bool
is_gone_from dump None = false
is_gone_from dump (Some row) = not (is_some (get_or (marks dump) row None))

-- whether the newest page that the die had of sector n is not in the dump
unfoldable pub is_gone : Image → Image → ℕ → Bool
is_gone die dump n = is_gone_from dump (newest (marks die) (Sector n))

-- ---- a dump of a die

-- The dump is one of a die that had these pages: each of its pages is that of the die, or not sound. One that the die had programmed and that
-- reads as erased stands before one of its block that does not. The die has no sound page in a block that the dump's newest table names factory. No
-- page that was the newest of its sector is gone from a block that was written again.
pub record IsDumpOf (g : Geometry) (die dump : Image) : Type 0 where
  pub size : length dump ≡ length die
  pub page : (row : ℕ) (p q : Page) → slice_get die row ≡ Some p → slice_get dump row ≡ Some q → (q ≡ p) ⊎ (record_of q ≡ None)
  pub followed : (row : ℕ) → is_programmed_at die row ≡ true → is_erased_at dump row ≡ true → IsHole g dump row
  pub unused : (row : ℕ) → is_factory g dump (row / g.pages) ≡ true → get_or (marks die) row None ≡ None
  pub moved : (n row : ℕ) → newest (marks die) (Sector n) ≡ Some row → is_rewritten g dump (row / g.pages) ≡ true → is_gone die dump n ≡ false

-- a block is programmed in order: no erased page stands before one of its block that is not
abbrev pub IsProgrammedInOrder : Geometry → Image → Type 0
IsProgrammedInOrder g image = (row later : ℕ) → row < later → later / g.pages ≡ row / g.pages → is_programmed_at image later ≡ true → is_erased_at image row ≡ false

-- ---- a row of its own

-- the row is that of the sector's newest page, and of no other sector's, and its page is neither erased nor sound, or a hole, in a block that is
-- not excused
pub record HasOwnRow (g : Geometry) (die dump : Image) (n : ℕ) : Type 0 where
  pub row : ℕ
  pub newest_is : newest (marks die) (Sector n) ≡ Some row
  pub own : (m : ℕ) → newest (marks die) (Sector m) ≡ Some row → m ≡ n
  pub broken : (is_unsound_at dump row ≡ true) ⊎ (is_hole g dump row ≡ true)
  pub stays_open : is_excused g dump (row / g.pages) ≡ false

-- ---- laws

-- Such a dump there is: of a die of which one page came to be neither erased nor sound, where the dump's newest table names no block bad.
abbrev pub BrokenPageLaw : Type 0
BrokenPageLaw = (g : Geometry) (die : Image) (row : ℕ) (p : Page) → row < length die → is_broken p ≡ true → ((block : ℕ) → table_class g (slice_set die row p) block ≡ 0) → IsDumpOf g die (slice_set die row p)

-- Each sector whose newest page is gone has a row of its own that is told.
abbrev pub OwnRowLaw : Type 0
OwnRowLaw = (g : Geometry) (die dump : Image) (n : ℕ) → IsDumpOf g die dump → is_gone die dump n ≡ true → HasOwnRow g die dump n

-- So there are at most as many of them as are told.
abbrev pub BoundLaw : Type 0
BoundLaw = (g : Geometry) (die dump : Image) (sectors : ℕ) → IsDumpOf g die dump → count_by (is_gone die dump) (range_with_len 0 sectors) ≤ most_older (doubts_of g dump)

-- Every other sector of the dump reads as it did of the die, where no two sound pages of the die share a sequence.
abbrev pub NotGoneReadsSameLaw : Type 0
NotGoneReadsSameLaw = (g : Geometry) (die dump : Image) (n : ℕ) → IsDumpOf g die dump → AreDistinct (marks die) → is_gone die dump n ≡ false → sector_of g dump n ≡ sector_of g die n

-- Of a die whose blocks were programmed in order, and of whose erased pages none reads otherwise, each hole is a page that was lost.
abbrev pub HoleLostLaw : Type 0
HoleLostLaw = (g : Geometry) (die dump : Image) (row : ℕ) → length dump ≡ length die → IsProgrammedInOrder g die → ((r : ℕ) → is_programmed_at dump r ≡ true → is_programmed_at die r ≡ true) → IsHole g dump row
    → is_programmed_at die row ≡ true
