-- The array of a dump with pages shown that are not sound: a sector is shown as such a page has it where that says something newer than each sound page.
use Rattle.std.specs.Prelude.{◌≡◌, ◌↔◌, ℕ, ◌<◌, ◌≤◌, if◌then◌else◌, Bool, true, false, List, length, map, slice_get, Option, Some, None}
use Rattle.std.specs.List.{range_with_len}
use Rattle.page_layout.specs.declared.geometry.Geometry.{Geometry}
use Rattle.page_layout.specs.declared.record.Record.{Record}
use Rattle.page_layout.specs.declared.record.Kind.TheVariants as kind
use Rattle.page_layout.specs.declared.record.Key.TheVariants.{Sector}
use Rattle.page_layout.specs.declared.newest.Latest.{Latest}
use Rattle.page_layout.specs.declared.newest.Latest.TheVariants.{Never, Once, Tied}
use Rattle.page_layout.specs.Page.{Page, Image, page}
use Rattle.page_layout.specs.Sound.{spelled}
use Rattle.page_layout.specs.Greatest.{place_of}
use Rattle.page_layout.specs.Key.{key_of}
use Rattle.page_layout.specs.Newest.{latest_below, sequence_at}
use Rattle.page_layout.specs.Array.{marks, zeros, content_of_record, content_at, sector_of, array_of}
use Rattle.page_layout.specs.Block.{is_broken}
use Rattle.lab_dump.specs.Said.{is_after, says}
use Rattle.lab_dump.specs.Until.{record_until, until}

-- ---- where a sector is shown from

-- The row of a page that is not sound and says something newer than each sound page, by what is known of the sound ones and of what the others say: the
-- one of the greatest sequence, and of several the first.
abbrev pub row_said_newer : (sound said : Latest) → Option ℕ
row_said_newer sound Never = None
row_said_newer sound (Once row s) = if is_after s sound then Some row else None
row_said_newer sound (Tied a b s) = if is_after s sound then Some a else None

-- no page, the sound page of a row, or one that is not sound
pub data Place : Type 0 where
  Nowhere : Place
  Whole : ℕ → Place
  Broken : ℕ → Place

abbrev pub broken_or_whole : (damaged sound : Option ℕ) → Place
broken_or_whole (Some row) sound = Broken row
broken_or_whole None (Some row) = Whole row
broken_or_whole None None = Nowhere

abbrev pub place_by : (sound said : Latest) → Place
place_by sound said = broken_or_whole (row_said_newer sound said) (place_of sound)

-- what a sector reads as from there, where a page that is not sound reads as this
abbrev pub content_in : Geometry → Image → (ℕ → List ℕ) → Place → List ℕ
content_in g image reads Nowhere = zeros g
content_in g image reads (Whole row) = content_at g image (Some row)
content_in g image reads (Broken row) = reads row

-- ---- pages that are not sound

-- what each page says that is neither erased nor sound, as of a sequence where one is said: later ones do not count
unfoldable pub said_marks : Geometry → Option ℕ → Image → List (Option Record)
said_marks g last image = map (λ p. record_until last (says g p)) image

-- what such a page reads as: its data area where it says a sector, zeros where it says a trim
abbrev pub said_content : Geometry → Option Page → List ℕ
said_content g None = zeros g
said_content g (Some p) = content_of_record g (says g p) p.body

abbrev pub said_reads : Geometry → Image → ℕ → List ℕ
said_reads g image row = said_content g (slice_get image row)

-- the page of this data area and this spare area is neither erased nor sound, and says that it holds sector n
pub record SaysSector (n : ℕ) (body spare : List ℕ) : Type 0 where
  pub its : Record
  pub broken : is_broken (page body spare) ≡ true
  pub spells : spelled spare ≡ Some its
  pub kind_is : its.kind ≡ kind.Sector
  pub number_is : its.number ≡ n

-- ---- all sectors

-- where sector n is shown from, as of a sequence where one is said
unfoldable pub shown_place : Geometry → Option ℕ → Image → ℕ → Place
shown_place g last image n =
    place_by (latest_below (marks (until g last image)) (Sector n) (length image)) (latest_below (said_marks g last image) (Sector n) (length image))

-- WHAT SECTOR N IS SHOWN AS
-- Laws: as a page that is not sound has it just where that is newer (`DamagedLaw`), else as ever (`OtherwiseLaw`).
unfoldable pub damaged_sector : Geometry → Option ℕ → Image → ℕ → List ℕ
damaged_sector g last image n = content_in g (until g last image) (said_reads g image) (shown_place g last image n)

unfoldable pub damaged_array : Geometry → Option ℕ → Image → List (List ℕ)
damaged_array g last image = map (damaged_sector g last image) (range_with_len 0 g.sectors)

-- the array as it is written, with such pages or without
abbrev pub array_with : Geometry → Option ℕ → (damaged : Bool) → Image → List (List ℕ)
array_with g last true image = damaged_array g last image
array_with g last false image = array_of g (until g last image)

-- ---- laws

-- The row's page is neither erased nor sound, says sector n, counts, and has a later sequence than each sound page of it that counts.
pub record IsSaidNewer (g : Geometry) (last : Option ℕ) (image : Image) (n row : ℕ) : Type 0 where
  pub page : Page
  pub its : Record
  pub at : slice_get image row ≡ Some page
  pub says_is : record_until last (says g page) ≡ Some its
  pub key_is : key_of its ≡ Sector n
  pub newer : (other s : ℕ) → sequence_at (marks (until g last image)) (Sector n) other ≡ Some s → s < its.sequence

-- and of all pages that say sector n and are not sound it has the greatest sequence, and is the first that has it
pub record IsNewestSaid (g : Geometry) (last : Option ℕ) (image : Image) (n row : ℕ) : Type 0 where
  pub is : IsSaidNewer g last image n row
  pub greatest : (other s : ℕ) → sequence_at (said_marks g last image) (Sector n) other ≡ Some s → s ≤ is.its.sequence
  pub first : (other : ℕ) → sequence_at (said_marks g last image) (Sector n) other ≡ Some is.its.sequence → row ≤ other

-- A sector is shown as a page has it that is not sound just where that page is the first of the newest such, and newer than each sound one.
abbrev pub DamagedLaw : Type 0
DamagedLaw = (g : Geometry) (last : Option ℕ) (image : Image) (n row : ℕ) → (shown_place g last image n ≡ Broken row) ↔ IsNewestSaid g last image n row

-- Where no such page is newer, the sector is shown as ever.
abbrev pub OtherwiseLaw : Type 0
OtherwiseLaw = (g : Geometry) (last : Option ℕ) (image : Image) (n : ℕ) → ((row : ℕ) → ¬ IsSaidNewer g last image n row) → damaged_sector g last image n ≡ sector_of g (until g last image) n
