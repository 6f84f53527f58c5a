-- The pages of a row, one of each reading, one behind another.
use Rattle.std.specs.Prelude.{ℕ, ◌+◌, ◌*◌, List, map, slice_index, slice_range}
use Rattle.std.specs.List.{range_with_len}
use Rattle.page_layout.specs.declared.geometry.Geometry.{Geometry}
use Rattle.page_layout.specs.Geometry.{page_bytes}
use Rattle.page_layout.specs.Page.{Page}
use Rattle.lab_dump.specs.PageBytes.{page_from_bytes}

-- the bytes of page i
abbrev pub piece_at : List ℕ → ℕ → ℕ → List ℕ
piece_at bytes size i = slice_range bytes (i * size) (i * size + size)

-- page i
abbrev pub page_of_reading : Geometry → List ℕ → ℕ → Page
page_of_reading g bytes i = page_from_bytes g.data_bytes (piece_at bytes (page_bytes g) i)

-- the first pages, of which there are so many
unfoldable pub pages_in : Geometry → List ℕ → ℕ → List Page
pages_in g bytes count = map (page_of_reading g bytes) (range_with_len 0 count)

-- byte j of each of them
unfoldable pub bytes_at : List ℕ → ℕ → ℕ → ℕ → List ℕ
bytes_at bytes size count j = map (λ i. slice_index bytes (i * size + j)) (range_with_len 0 count)
