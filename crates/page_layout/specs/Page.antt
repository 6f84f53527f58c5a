-- Pages, and the images that they make up.
use Rattle.std.specs.Prelude.{◌≡◌, ◌<◌, ℕ, List, [], length, slice_index, slice_get, Option, Some, None}
use Rattle.page_layout.specs.declared.geometry.Geometry.{Geometry}
use Rattle.page_layout.specs.Geometry.{row_count}

-- the bytes of a page's data area and of its spare area
pub record Page : Type 0 where
  pub body : List ℕ
  pub spare : List ℕ

-- the pages of a die in row order
abbrev pub Image : Type 0
Image = List Page

abbrev pub page : List ℕ → List ℕ → Page
page body spare = record { body = body; spare = spare }

abbrev pub body_of : Option Page → List ℕ
body_of None = []
body_of (Some p) = p.body

-- the data area of a row's page, and nothing past the image
unfoldable pub body_at : Image → ℕ → List ℕ
body_at image row = body_of (slice_get image row)

-- a page of the die: its areas have the die's sizes and hold bytes
pub record IsPage (g : Geometry) (p : Page) : Type 0 where
  pub body_size : length p.body ≡ g.data_bytes
  pub spare_size : length p.spare ≡ g.spare_bytes
  pub body_fits : (i : ℕ) → slice_index p.body i < 256
  pub spare_fits : (i : ℕ) → slice_index p.spare i < 256

-- an image of the die: all its rows, each a page of the die
pub record IsImage (g : Geometry) (image : Image) : Type 0 where
  pub rows : length image ≡ row_count g
  pub pages : (row : ℕ) (p : Page) → slice_get image row ≡ Some p → IsPage g p
