-- What more than half of several pages say, bit by bit.
use Rattle.std.specs.Prelude.{◌≡◌, ◌↔◌, ℕ, ◌*◌, ◌^◌, ◌<◌, ◌==◌, nat_lt, if◌then◌else◌, List, length, map, count_by, sum_by, slice_index}
use Rattle.std.specs.List.{range_with_len}
use Rattle.std.specs.Int.{bit_at}
use Rattle.page_layout.specs.declared.geometry.Geometry.{Geometry}
use Rattle.page_layout.specs.Geometry.{page_bytes}
use Rattle.page_layout.specs.Page.{Page}
use Rattle.page_layout.specs.Raw.{bytes_of_page}
use Rattle.lab_dump.specs.PageBytes.{page_from_bytes, page_bit}

-- how many of these bytes have bit b set
abbrev pub votes : List ℕ → ℕ → ℕ
votes bytes b = sum_by (λ x. bit_at x b) bytes

-- 1 where more than half of these bytes have bit b set, else 0
abbrev pub majority_bit : List ℕ → ℕ → ℕ
majority_bit bytes b = if nat_lt (length bytes) (2 * votes bytes b) then 1 else 0

-- the byte of these bits, of which there are so many
unfoldable pub byte_of : (ℕ → ℕ) → ℕ → ℕ
byte_of bits n = sum_by (λ b. bits b * 2 ^ b) (range_with_len 0 n)

-- byte j of each of these pages
abbrev pub column : List Page → ℕ → List ℕ
column pages j = map (λ p. slice_index (bytes_of_page p) j) pages

-- the byte that has each bit set which more than half of these have set
abbrev pub majority_byte : List ℕ → ℕ
majority_byte bytes = byte_of (majority_bit bytes) 8

-- the page that has each bit set which more than half of these pages have set
unfoldable pub majority : Geometry → List Page → Page
majority g pages = page_from_bytes g.data_bytes (map (λ j. majority_byte (column pages j)) (range_with_len 0 (page_bytes g)))

-- A bit of that page is set just where more than half of the pages have it set.
abbrev pub MajorityLaw : Type 0
MajorityLaw = (g : Geometry) (pages : List Page) (k : ℕ) → k < 8 * page_bytes g → (page_bit (majority g pages) k ≡ 1) ↔ (length pages < 2 * count_by (λ p. page_bit p k == 1) pages)
