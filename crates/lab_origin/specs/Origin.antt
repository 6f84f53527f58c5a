-- Where the page comes from that a sector of a dump is shown from: a reading has it, as it stands, or none has.
use Rattle.std.specs.Prelude.{◌≡◌, ◌≢◌, ◌↔◌, ℕ, ◌+◌, ◌*◌, ◌<◌, Bool, true, false, List, [], length, get_or, map, slice_range, Option}
use Rattle.std.specs.List.{list_any, range_with_len}
use Rattle.std.specs.Str.{bytes_eq}
use Rattle.page_layout.specs.declared.geometry.Geometry.{Geometry}
use Rattle.page_layout.specs.Geometry.{page_bytes}
use Rattle.page_layout.specs.declared.newest.Latest.{Latest}
use Rattle.page_layout.specs.declared.newest.Latest.TheVariants.{Never, Once, Tied}
use Rattle.page_layout.specs.declared.record.Key.TheVariants.{Sector}
use Rattle.page_layout.specs.Page.{Image}
use Rattle.page_layout.specs.Newest.{IsNewest, latest_below}
use Rattle.page_layout.specs.Array.{marks}
use Rattle.page_layout.specs.Raw.{raw_image}
use Rattle.lab_dump.specs.Until.{until}
use Rattle.lab_dump.specs.Written.{sector_state}
use Rattle.lab_dump.specs.declared.held.SectorShown.{SectorShown}
use Rattle.lab_dump.specs.declared.held.SectorShown.TheVariants as shown
use Rattle.lab_dump.specs.declared.mark.MapMark.{MapMark}
use Rattle.lab_dump.specs.declared.mark.MapMark.TheVariants as mark

-- ---- the page of a row

-- its bytes, in a dump of this geometry
abbrev pub row_bytes : Geometry → List ℕ → ℕ → List ℕ
row_bytes g bytes row = slice_range bytes (row * page_bytes g) (row * page_bytes g + page_bytes g)

-- whether a dump has these bytes from this place on
abbrev pub has_at : ℕ → List ℕ → List ℕ → Bool
has_at at piece bytes = bytes_eq (slice_range bytes at (at + length piece)) piece

-- whether one of the readings has the row's page of the dump, byte for byte
unfoldable pub is_in_a_reading : Geometry → List ℕ → List (List ℕ) → ℕ → Bool
is_in_a_reading g dump readings row = list_any (λ reading. bytes_eq (row_bytes g reading row) (row_bytes g dump row)) readings

-- ---- a sector

abbrev pub read_mark : Bool → MapMark
read_mark true = mark.Finished
read_mark false = mark.Mended

-- how it is marked by what is known of its newest page, where this says of which rows a reading has the page
abbrev pub mark_by_latest : (ℕ → Bool) → Latest → MapMark
mark_by_latest read Never = mark.Untried
mark_by_latest read (Once row s) = read_mark (read row)
mark_by_latest read (Tied a b s) = mark.Bad

-- the dump as of a sequence, where one is said
abbrev pub image_of : Geometry → Option ℕ → List ℕ → Image
image_of g last dump = until g last (raw_image g dump)

-- HOW SECTOR N IS MARKED
-- Laws: `Mended` just where no reading has its newest page (`MendedLaw`), and else as the array's own map has it (`AlikeLaw`).
unfoldable pub sector_mark_of : Geometry → Option ℕ → List ℕ → List (List ℕ) → ℕ → MapMark
sector_mark_of g last dump readings n = mark_by_latest (is_in_a_reading g dump readings) (latest_below (marks (image_of g last dump)) (Sector n) (length (image_of g last dump)))

-- all sectors, in order
abbrev pub marks_of : Geometry → Option ℕ → List ℕ → List (List ℕ) → List MapMark
marks_of g last dump readings = map (sector_mark_of g last dump readings) (range_with_len 0 g.sectors)

abbrev pub is_mended : MapMark → Bool
is_mended mark.Untried = false
is_mended mark.Finished = false
is_mended mark.Mended = true
is_mended mark.Bad = false

-- ---- laws

-- This row has the newest page of sector n, and no reading has the page there as the dump has it.
pub record IsOfNone (g : Geometry) (last : Option ℕ) (dump : List ℕ) (readings : List (List ℕ)) (n row : ℕ) : Type 0 where
  pub newest : IsNewest (marks (image_of g last dump)) (Sector n) row
  pub none : (i : ℕ) → i < length readings → row_bytes g (get_or readings i []) row ≢ row_bytes g dump row

-- A sector is marked so just where its newest page stands in no reading.
abbrev pub MendedLaw : Type 0
MendedLaw = (g : Geometry) (last : Option ℕ) (dump : List ℕ) (readings : List (List ℕ)) (n : ℕ) → (sector_mark_of g last dump readings n ≡ mark.Mended) ↔ ((row : ℕ) × IsOfNone g last dump readings n row)

-- This row has the newest page of sector n, and one of the readings has it too.
pub record IsOriginOf (g : Geometry) (last : Option ℕ) (dump : List ℕ) (readings : List (List ℕ)) (n row : ℕ) : Type 0 where
  pub newest : IsNewest (marks (image_of g last dump)) (Sector n) row
  pub i : ℕ
  pub among : i < length readings
  pub same : row_bytes g (get_or readings i []) row ≡ row_bytes g dump row

-- It is finished just where a reading has its newest page.
abbrev pub FinishedLaw : Type 0
FinishedLaw = (g : Geometry) (last : Option ℕ) (dump : List ℕ) (readings : List (List ℕ)) (n : ℕ) → (sector_mark_of g last dump readings n ≡ mark.Finished) ↔ ((row : ℕ) × IsOriginOf g last dump readings n row)

-- how the array's own map has it, which knows of no reading
abbrev pub plain : MapMark → SectorShown
plain mark.Untried = shown.Absent
plain mark.Finished = shown.Found
plain mark.Mended = shown.Found
plain mark.Bad = shown.Tied

-- But for that the map is the array's.
abbrev pub AlikeLaw : Type 0
AlikeLaw = (g : Geometry) (last : Option ℕ) (dump : List ℕ) (readings : List (List ℕ)) (n : ℕ) → plain (sector_mark_of g last dump readings n) ≡ sector_state (image_of g last dump) n
