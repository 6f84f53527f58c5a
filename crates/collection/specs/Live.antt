-- Pages that count: those that are the newest of their keys.
use Rattle.std.specs.Prelude.{◌≡◌, ◌≢◌, ◌⊎◌, ℕ, ◌+◌, ◌*◌, ◌<◌, ◌≤◌, List, slice_get, get_or, Option, Some, None}
use Rattle.page_layout.specs.declared.record.Record.{Record}
use Rattle.page_layout.specs.declared.record.Key.{Key}
use Rattle.page_layout.specs.declared.record.Key.TheVariants.{Sector, Translation, Table}
use Rattle.page_layout.specs.Page.{Page, Image, body_at}
use Rattle.page_layout.specs.Key.{key_of}
use Rattle.page_layout.specs.Sound.{record_of}
use Rattle.page_layout.specs.Array.{marks}
use Rattle.page_layout.specs.Live.{IsKeyOf}
use Rattle.page_layout.specs.Geometry.{translation_pages}
use Rattle.mapping_cache.specs.Mapping.{known}
use Rattle.collection.specs.State.{Ram}
use Rattle.collection.specs.Pages.{newest_row}
use Rattle.collection.specs.Looks.{IsPageOf, GivesRow}

-- no newest page is in the row
abbrev pub NotAt : ℕ → Image → Type 0
NotAt row image = (key : Key) → newest_row image key ≢ Some row

-- no newest page is in these pages of the block, from the first up to the end
pub record HoldsNoneIn (pages block first end : ℕ) (image : Image) : Type 0 where
  pub none : (p : ℕ) → first ≤ p → p < end → NotAt (block * pages + p) image

-- the page in the row is the newest of its key, with this record and this data area
pub record IsLivePage (row : ℕ) (body : List ℕ) (r : Record) (image : Image) : Type 0 where
  pub mark : get_or (marks image) row None ≡ Some r
  pub newest : newest_row image (key_of r) ≡ Some row
  pub holds : body_at image row ≡ body

-- the page that stands in a row
pub record StandsInRow (row : ℕ) (found : Option Record) (body : List ℕ) (image : Image) : Type 0 where
  pub mark : get_or (marks image) row None ≡ found
  pub holds : body_at image row ≡ body

-- what a look at a row finds
abbrev pub LooksAt : ℕ → List ℕ → Image → Option Record → Type 0
LooksAt row body image None = NotAt row image
LooksAt row body image (Some r) = IsLivePage row body r image

-- the first page of the block, from a page on, that is the newest of its key
pub record IsFirstLive (pages block first page : ℕ) (body : List ℕ) (r : Record) (image : Image) : Type 0 where
  pub before : HoldsNoneIn pages block first page image
  pub live : IsLivePage (block * pages + page) body r image

-- what a look for it finds
abbrev pub FindsFirst : (pages block first : ℕ) → List ℕ → Image → Option (ℕ × Record) → Type 0
FindsFirst pages block first body image None = HoldsNoneIn pages block first pages image
FindsFirst pages block first body image (Some found) = IsFirstLive pages block first found.0 body found.1 image

-- ---- whatever the die does

-- by the memory, or by the page in the scratch buffer where the memory doesn't know, this is the row of the key's newest page
abbrev pub PointsTo : Ram → Page → Key → Option ℕ → Type 0
PointsTo r p (Sector n) row = (known r.mapping n ≡ Some row) ⊎ ((known r.mapping n ≡ None) × GivesRow r.geometry r.directory n p row)
PointsTo r p (Translation t) row = slice_get r.directory t ≡ Some row
PointsTo r p (Table u) row = slice_get r.directory (translation_pages r.geometry + u) ≡ Some row

-- the page that was read is sound with this record, its key is one of the die's, and the key's row is this one
pub record IsFoundIn (r : Ram) (read scratch : Page) (row : ℕ) (found : Record) : Type 0 where
  pub sound : IsPageOf (key_of found) found read
  pub of_key : IsKeyOf r.geometry (key_of found)
  pub points : PointsTo r scratch (key_of found) (Some row)

-- WHY A ROW HOLDS NO NEWEST PAGE: the page that was read is not sound, or its key is none of the die's, or has another row or none, by memory or by the page in the
-- scratch buffer
abbrev pub IsUnlive : Ram → (read scratch : Page) → ℕ → Type 0
IsUnlive r read scratch row = (its : Record) → record_of read ≡ Some its → IsKeyOf r.geometry (key_of its) → (other : Option ℕ) × (other ≢ Some row) × PointsTo r scratch (key_of its) other
