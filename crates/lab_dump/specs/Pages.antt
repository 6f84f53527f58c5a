-- The page of a row, in a dump of such areas.
use Rattle.lab_dump.specs.PageBytes.{page_from_bytes}
use Rattle.std.specs.Prelude.{ℕ, ◌+◌, ◌*◌, List, take, drop, slice_range}
use Rattle.page_layout.specs.Page.{Page, page}

-- the page of a row of a dump: pages stand one behind another
unfoldable pub dump_page_at : ℕ → ℕ → List ℕ → ℕ → Page
dump_page_at data_bytes spare_bytes all row = page_from_bytes data_bytes (slice_range all (row * (data_bytes + spare_bytes)) (row * (data_bytes + spare_bytes) + (data_bytes + spare_bytes)))
