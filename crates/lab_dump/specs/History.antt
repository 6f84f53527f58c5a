-- The sound pages of a sector that a dump still has, newest first.
use Rattle.std.specs.Prelude.{◌≡◌, ◌↔◌, ◌⊎◌, ℕ, zero, suc, ◌+◌, ◌<◌, ◌≤◌, if◌then◌else◌, List, [], ◌∷◌, ◌++◌, length, get_or, slice_get, slice_index, take, count_by, Option, Some, None, IsPermutation}
use Rattle.std.specs.List.{Contains}
use Rattle.page_layout.specs.declared.geometry.Geometry.{Geometry}
use Rattle.page_layout.specs.declared.record.Record.{Record}
use Rattle.page_layout.specs.declared.record.Kind.{Kind}
use Rattle.page_layout.specs.declared.record.Kind.TheVariants as kind
use Rattle.page_layout.specs.declared.record.Key.TheVariants.{Sector}
use Rattle.page_layout.specs.Page.{Page, Image}
use Rattle.page_layout.specs.Key.{key_of, key_eq}
use Rattle.page_layout.specs.Sound.{record_of}
use Rattle.page_layout.specs.Block.{is_broken}
use Rattle.page_layout.specs.Newest.{newest}
use Rattle.page_layout.specs.Array.{marks}
use Rattle.page_layout.specs.Raw.{raw_image}
use Rattle.lab_dump.specs.Scan.{image_bytes}
use Rattle.lab_dump.specs.declared.history.History.{History}
use Rattle.lab_dump.specs.declared.history.SectorPage.{SectorPage}
use Rattle.lab_dump.specs.declared.history.Wrote.{Wrote}
use Rattle.lab_dump.specs.declared.history.Wrote.TheVariants.{Data, Trim}

-- ---- one page

-- what a page of a sector does, by its kind: it has the sector's bytes, or trims it
abbrev pub wrote_of : Kind → Wrote
wrote_of kind.Sector = Data
wrote_of kind.Trim = Trim
wrote_of kind.Translation = Trim
wrote_of kind.Table = Trim

-- what is told of a sound page with this record, in this row, of this version
abbrev pub told_page : ℕ → ℕ → Record → SectorPage
told_page row version r = record { sequence = record { 0 = r.sequence }; row = row; version = version; wrote = wrote_of r.kind }

-- the page of a row, in a list, where it is sound and of the sector
abbrev pub page_by : ℕ → ℕ → ℕ → Option Record → List SectorPage
page_by n row version None = []
page_by n row version (Some r) = if key_eq (key_of r) (Sector n) then told_page row version r ∷ [] else []

abbrev pub page_in_row : ℕ → ℕ → Option Page → List SectorPage
page_in_row n row None = []
page_in_row n row (Some p) = page_by n row (slice_index p.spare 2) (record_of p)

-- ---- all pages

-- those of the first rows, by rising row
unfoldable pub pages_below : Image → ℕ → ℕ → List SectorPage
pages_below image n zero = []
pages_below image n (suc row) = pages_below image n row ++ page_in_row n row (slice_get image row)

-- ALL SOUND PAGES OF A SECTOR, by rising row.
-- Law: a page is in the list just where it is sound and of the sector (`HistoryLaw`).
abbrev pub sector_pages_of : Image → ℕ → List SectorPage
sector_pages_of image n = pages_below image n (length image)

-- a page comes before another one: it has a later sequence, or the same and a lower row
abbrev pub ComesBefore : SectorPage → SectorPage → Type 0
ComesBefore x y = (y.sequence.0 < x.sequence.0) ⊎ ((y.sequence.0 ≡ x.sequence.0) × (x.row ≤ y.row))

-- each page comes before the next one
abbrev pub AreNewestFirst : List SectorPage → Type 0
AreNewestFirst pages = (k : ℕ) (d : SectorPage) → k + 1 < length pages → ComesBefore (get_or pages k d) (get_or pages (k + 1) d)

-- The history has the sound pages of the sector, newest first, and how many pages are neither erased nor sound.
pub record IsHistory (image : Image) (n : ℕ) (h : History) : Type 0 where
  pub all : IsPermutation (sector_pages_of image n) h.pages.items
  pub order : AreNewestFirst h.pages.items
  pub unsound_is : h.unsound ≡ count_by is_broken image

-- The bytes are as many as an image has, and the history is that of the image that they are.
pub record IsHistoryOf (g : Geometry) (n : ℕ) (h : History) (bytes : List ℕ) : Type 0 where
  pub whole : length bytes ≡ image_bytes g
  pub history : IsHistory (raw_image g bytes) n h

-- ---- while pages pass

-- those of the first rows were noted
pub record ShowsHistory (n rows : ℕ) (image : Image) (pages : List SectorPage) (unsound : ℕ) : Type 0 where
  pub pages_are : pages ≡ pages_below image n rows
  pub unsound_is : unsound ≡ count_by is_broken (take rows image)

-- ---- laws

-- the page of a row is sound, of the sector, and has this sequence and version, and did this
pub record TellsSectorPage (image : Image) (n : ℕ) (x : SectorPage) : Type 0 where
  pub page : Page
  pub its : Record
  pub at : slice_get image x.row ≡ Some page
  pub says : record_of page ≡ Some its
  pub of_sector : key_of its ≡ Sector n
  pub sequence_is : x.sequence.0 ≡ its.sequence
  pub wrote_is : x.wrote ≡ wrote_of its.kind
  pub version_is : x.version ≡ slice_index page.spare 2

-- A history tells just the sound pages of the sector.
abbrev pub HistoryLaw : Type 0
HistoryLaw = (image : Image) (n : ℕ) (x : SectorPage) → Contains (sector_pages_of image n) x ↔ TellsSectorPage image n x

-- Its first page is the newest one of the sector, where there is a newest one.
pub record StartsWithRow (row : ℕ) (pages : List SectorPage) : Type 0 where
  pub first : SectorPage
  pub at : slice_get pages 0 ≡ Some first
  pub row_is : first.row ≡ row

abbrev pub FirstLaw : Type 0
FirstLaw = (image : Image) (n row : ℕ) (h : History) → IsHistory image n h → newest (marks image) (Sector n) ≡ Some row → StartsWithRow row h.pages.items
