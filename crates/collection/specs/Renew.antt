-- Pages of version 1 that have to be copied, so that a die's pages come to be of version 2.
use Rattle.std.specs.Prelude.{◌≡◌, ◌≢◌, ◌⊎◌, ℕ, ◌<◌, ◌≤◌, ◌&&◌, not, Bool, true, false, List, Option, Some, None}
use Rattle.page_layout.specs.declared.record.Record.{Record}
use Rattle.page_layout.specs.declared.record.Key.{Key}
use Rattle.page_layout.specs.declared.record.Key.TheVariants.{Sector, Translation, Table}
use Rattle.page_layout.specs.Page.{Page, Image}
use Rattle.page_layout.specs.Sound.{record_of, version_of, version_for}
use Rattle.page_layout.specs.Key.{key_of}
use Rattle.page_layout.specs.Version.{is_1, is_old, HasOldAt}
use Rattle.collection.specs.State.{Ram}
use Rattle.collection.specs.Live.{IsLivePage, IsUnlive}
use Rattle.collection.specs.Results.{IsSame, KeepsPage}
use Rattle.collection.specs.Collect.{FollowsCopy}

-- whether it is the key of a table page: those are written anew with each flush
abbrev pub is_table_key : Key → Bool
is_table_key (Sector n) = false
is_table_key (Translation t) = false
is_table_key (Table u) = true

-- whether a page with this record has to be renewed where it is the newest of its key: it is of version 1, and no table page
abbrev pub is_due_page : Record → Page → Bool
is_due_page r p = not (is_table_key (key_of r)) && is_1 (version_of p)

-- why the page of a row need not be renewed: it is the newest of no key, or has a record by which that is not due
abbrev pub IsUndue : Ram → (read scratch : Page) → ℕ → Type 0
IsUndue r read scratch row = IsUnlive r read scratch row ⊎ ((its : Record) × (record_of read ≡ Some its) × (is_due_page its read ≡ false))

-- no newest page of version 1 is in the row, but a table page
abbrev pub HasNoneDue : ℕ → Image → Type 0
HasNoneDue row image = (key : Key) → is_table_key key ≡ false → ¬ HasOldAt image key row

-- such a page is in the row
pub record HasDue (row : ℕ) (image : Image) : Type 0 where
  pub key : Key
  pub no_table : is_table_key key ≡ false
  pub old : HasOldAt image key row

-- the page in the row is such a page, with this record and this data area
pub record IsDuePage (row : ℕ) (body : List ℕ) (r : Record) (image : Image) : Type 0 where
  pub live : IsLivePage row body r image
  pub no_table : is_table_key (key_of r) ≡ false
  pub old : HasOldAt image (key_of r) row

-- what a look at a row finds
abbrev pub LooksAtDue : ℕ → List ℕ → Image → Option Record → Type 0
LooksAtDue row body image None = HasNoneDue row image
LooksAtDue row body image (Some r) = IsDuePage row body r image

-- the next row with such a page, from a row on
pub record IsNextDue (from row : ℕ) (image : Image) : Type 0 where
  pub after : from ≤ row
  pub due : HasDue row image
  pub first : (q : ℕ) → from ≤ q → q < row → HasNoneDue q image

-- what a look for it finds
abbrev pub FindsDue : ℕ → Image → Option ℕ → Type 0
FindsDue from image None = (row : ℕ) → from ≤ row → HasNoneDue row image
FindsDue from image (Some row) = IsNextDue from row image

-- THE ROW'S PAGE WAS RENEWED, which had to be: the array is as it was, and no newest page was touched but that one and the page that follows its copy.
-- Where the die has version 2 both are of it, and no page that has to be renewed is in the row.
pub record IsRenewedPage (row : ℕ) (old : Ram) (before : Image) (new : Ram) (after : Image) : Type 0 where
  pub key : Key
  pub no_table : is_table_key key ≡ false
  pub due : HasOldAt before key row
  pub same : IsSame old before new after
  pub renewed : version_for old.geometry ≡ 2 → is_old after key ≡ false
  pub followed : version_for old.geometry ≡ 2 → (other : Key) → FollowsCopy old key other → is_old after other ≡ false
  pub none : version_for old.geometry ≡ 2 → HasNoneDue row after
  pub others : (other : Key) → other ≢ key → ¬ FollowsCopy old key other → KeepsPage other before after

-- by what is answered: it was renewed, or the row has no page that has to be, and the die is as it was
abbrev pub IsRenewedAt : ℕ → Ram → Image → Ram → Image → Bool → Type 0
IsRenewedAt row old before new after true = IsRenewedPage row old before new after
IsRenewedAt row old before new after false = HasNoneDue row before × IsSame old before new after × (after ≡ before)
