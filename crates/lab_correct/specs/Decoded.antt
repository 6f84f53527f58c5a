-- A dump of a chip's pages with their codes, read as the dump of the pages without them.
use Rattle.std.specs.Prelude.{ℕ, ◌+◌, ◌/◌, ◌==◌, if◌then◌else◌, List, length, map, replicate}
use Rattle.std.specs.List.{range_with_len, concat}
use Rattle.page_layout.specs.Page.{Page, page}
use Rattle.page_layout.specs.Raw.{bytes_of_page}
use Rattle.page_code.specs.Layout.{outer_size}
use Rattle.page_code.specs.Corrected.{corrected_areas, lost_areas}
use Rattle.lab_dump.specs.Pages.{dump_page_at}

-- A page of a chip, put right where none of its chunks is lost; else one of 00h bytes, which is neither erased nor sound. The sizes are those of
-- its areas without the codes.
abbrev pub decoded : ℕ → ℕ → Page → Page
decoded data_bytes spare_bytes r = if lost_areas data_bytes spare_bytes r == 0 then corrected_areas data_bytes spare_bytes r else page (replicate data_bytes 0) (replicate spare_bytes 0)

-- how many bytes a page has on the chip
abbrev pub raw_size : ℕ → ℕ → ℕ
raw_size data_bytes spare_bytes = data_bytes + outer_size data_bytes spare_bytes

-- the page of a row of the chip, so read
abbrev pub decoded_at : ℕ → ℕ → List ℕ → ℕ → Page
decoded_at data_bytes spare_bytes all row = decoded data_bytes spare_bytes (dump_page_at data_bytes (outer_size data_bytes spare_bytes) all row)

-- THE DUMP WITHOUT THE CODES: the pages of the chip, so read, one behind another
unfoldable pub decoded_bytes : ℕ → ℕ → List ℕ → List ℕ
decoded_bytes data_bytes spare_bytes all = concat (map (λ row. bytes_of_page (decoded_at data_bytes spare_bytes all row)) (range_with_len 0 (length all / raw_size data_bytes spare_bytes)))
