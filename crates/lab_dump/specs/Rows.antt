-- The rows that are asked for, and the image in which every other page is erased.
use Rattle.std.specs.Prelude.{◌≡◌, ◌↔◌, ℕ, ◌<◌, ◌≤◌, ◌&&◌, nat_le, nat_lt, if◌then◌else◌, Bool, true, false, length, map, slice_get, Option, Some, None}
use Rattle.std.specs.List.{enumerate_from}
use Rattle.page_layout.specs.declared.geometry.Geometry.{Geometry}
use Rattle.page_layout.specs.Page.{Page, Image}
use Rattle.page_layout.specs.Change.{erased_page}
use Rattle.lab_dump.specs.declared.rows.Rows.{Rows}

-- whether a row is asked for: each is where no rows are named
abbrev pub is_asked : Option Rows → ℕ → Bool
is_asked None row = true
is_asked (Some r) row = nat_le r.first row && nat_lt row r.end

-- a row's page where the row is asked for, else one as an erase leaves it
abbrev pub shown_page : Geometry → Option Rows → ℕ → Page → Page
shown_page g rows row p = if is_asked rows row then p else erased_page g

-- the image in which the page of every row that isn't asked for is as an erase leaves it
unfoldable pub within : Geometry → Option Rows → Image → Image
within g None image = image
within g (Some r) image = map (λ numbered. shown_page g (Some r) numbered.0 numbered.1) (enumerate_from 0 image)

-- ---- laws

-- Where rows are named, those from the first one to the one before the end are asked for, and no others.
abbrev pub AskedLaw : Type 0
AskedLaw = (r : Rows) (row : ℕ) → (is_asked (Some r) row ≡ true) ↔ ((r.first ≤ row) × (row < r.end))

-- the other image has as many pages, those of the rows asked for, and an erased one in place of each other
pub record KeepsOnlyAskedRows (g : Geometry) (rows : Option Rows) (image other : Image) : Type 0 where
  pub size : length other ≡ length image
  pub asked : (row : ℕ) → is_asked rows row ≡ true → slice_get other row ≡ slice_get image row
  pub others : (row : ℕ) (p : Page) → is_asked rows row ≡ false → slice_get image row ≡ Some p → slice_get other row ≡ Some (erased_page g)

-- `within` is that image.
abbrev pub WithinLaw : Type 0
WithinLaw = (g : Geometry) (rows : Option Rows) (image : Image) → KeepsOnlyAskedRows g rows image (within g rows image)

-- Where no rows are named the image is as it was.
abbrev pub NoRowsNamedLaw : Type 0
NoRowsNamedLaw = (g : Geometry) (image : Image) → within g None image ≡ image
