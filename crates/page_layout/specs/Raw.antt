-- A raw image: the pages in row order, each its data area and then its spare area, with nothing before, between or after them.
use Rattle.std.specs.Prelude.{◌≡◌, ◌<◌, ℕ, ◌+◌, ◌*◌, [], List, ◌++◌, length, map, slice_index, slice_range}
use Rattle.std.specs.List.{range_with_len, concat}
use Rattle.page_layout.specs.declared.geometry.Geometry.{Geometry}
use Rattle.page_layout.specs.Geometry.{page_bytes, row_count}
use Rattle.page_layout.specs.Page.{Page, Image, page}
use Rattle.page_layout.specs.Flash.{Flash}

-- the bytes of a page, data area first
abbrev pub bytes_of_page : Page → List ℕ
bytes_of_page p = p.body ++ p.spare

-- the bytes of an image's pages, one page after another
abbrev pub raw_bytes : Image → List ℕ
raw_bytes image = concat (map bytes_of_page image)

-- the page that begins at a byte
abbrev pub page_from : Geometry → List ℕ → ℕ → Page
page_from g bytes at = page (slice_range bytes at (at + g.data_bytes)) (slice_range bytes (at + g.data_bytes) (at + page_bytes g))

-- the image whose pages these bytes are
unfoldable pub raw_image : Geometry → List ℕ → Image
raw_image g bytes = map (λ row. page_from g bytes (row * page_bytes g)) (range_with_len 0 (row_count g))

-- an image alone, which is no die: it has no next pages, and nothing was asked of it
abbrev pub still : Geometry → Image → Flash
still g image = record { geometry = g; image = image; next_pages = []; abuse = 0 }

-- what an image slice is seen as: what stands in it, and how many pages were read
pub record Slice : Type 0 where
  pub flash : Flash
  pub reads : ℕ

-- bytes that are as many as the die's pages have
pub record IsRaw (g : Geometry) (bytes : List ℕ) : Type 0 where
  pub whole : length bytes ≡ row_count g * page_bytes g
  pub fits : (i : ℕ) → slice_index bytes i < 256
