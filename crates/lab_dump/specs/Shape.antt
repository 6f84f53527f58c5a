-- Which shapes a dump of so many bytes may have: whole pages of such areas, and these whole blocks, as many as a die may have.
use Rattle.std.specs.Prelude.{◌≡◌, ℕ, ◌+◌, ◌*◌, ◌/◌, ◌%◌, ◌==◌, ◌&&◌, nat_le, Bool, true, false, List, [], ◌∷◌, Option, Some, None}
use Rattle.std.specs.List.{list_any}
use Rattle.page_layout.specs.declared.geometry.Geometry.{Geometry}
use Rattle.page_layout.specs.Faults.{HasNumbers}

-- the bytes that a data area may have, a power of two from 64 to 4096
unfoldable pub data_sizes : List ℕ
data_sizes = 64 ∷ 128 ∷ 256 ∷ 512 ∷ 1024 ∷ 2048 ∷ 4096 ∷ []

-- the pages that a block may have, a power of two from 4 to 256
unfoldable pub page_counts : List ℕ
page_counts = 4 ∷ 8 ∷ 16 ∷ 32 ∷ 64 ∷ 128 ∷ 256 ∷ []

-- how many pages so many bytes are, of such areas
abbrev pub rows_in_size : ℕ → ℕ → ℕ → ℕ
rows_in_size size data_bytes spare_bytes = size / (data_bytes + spare_bytes)

-- whether a die may have so many blocks
abbrev pub are_blocks : ℕ → ℕ → ℕ → Bool
are_blocks data_bytes pages blocks = nat_le 12 blocks && nat_le blocks 4096 && nat_le blocks (data_bytes / 4 * pages)

-- whether so many bytes are whole pages, and these whole blocks of a die
abbrev pub is_shape : ℕ → ℕ → ℕ → ℕ → Bool
is_shape size data_bytes spare_bytes pages =
    (size % (data_bytes + spare_bytes) == 0) && (rows_in_size size data_bytes spare_bytes % pages == 0) && are_blocks data_bytes pages (rows_in_size size data_bytes spare_bytes / pages)

-- whether they are so for some number of pages
abbrev pub has_shape : ℕ → ℕ → ℕ → Bool
has_shape size data_bytes spare_bytes = list_any (is_shape size data_bytes spare_bytes) page_counts

-- the geometry of that shape with one sector, if there is such a shape
abbrev pub IsShapeOf : ℕ → ℕ → ℕ → ℕ → Option Geometry → Type 0
IsShapeOf size d s p None = is_shape size d s p ≡ false
IsShapeOf size d s p (Some g) = (is_shape size d s p ≡ true) × HasNumbers d s p (rows_in_size size d s / p) 1 g
