-- A PAGE AS IT READS, by the bytes that stand for it with their codes, and what is wrong with it.
use Rattle.std.specs.Prelude.{ℕ, ◌+◌, ◌==◌, if◌then◌else◌, List, map, replicate}
use Rattle.page_layout.specs.declared.geometry.Geometry.{Geometry}
use Rattle.page_layout.specs.Page.{Page, Image, page}
use Rattle.onfi_cycles.specs.Cycles.{page_of}
use Rattle.page_code.specs.Layout.{outer_bytes}
use Rattle.page_code.specs.Corrected.{corrected_page, turned_bits, lost_chunks}
use Rattle.corrected_nand.specs.Shown.{lost_page}
use Rattle.coded_store.specs.declared.wrong.Wrong.{Wrong}
use Rattle.coded_store.specs.declared.wrong.Wrong.TheVariants.{Turned, Lost}

-- how many bytes a page has with its codes
abbrev pub coded_bytes : Geometry → ℕ
coded_bytes g = g.data_bytes + outer_bytes g

-- an erased page, whose codes are erased too
abbrev pub erased_with_codes : Geometry → Page
erased_with_codes g = page (replicate g.data_bytes 255) (replicate (outer_bytes g) 255)

-- a page reads as it is put right; one of which a chunk is lost as the page that is lost, which is neither erased nor sound
unfoldable pub read_as : Geometry → Page → Page
read_as g r = if lost_chunks g r == 0 then corrected_page g r else lost_page g

-- the page that bytes read as, its data area standing before its spare area with the codes
abbrev pub page_as_read : Geometry → List ℕ → Page
page_as_read g bytes = read_as g (page_of g bytes)

-- WHAT IS WRONG WITH A PAGE: so many bits, which are turned back, or a chunk is lost
unfoldable pub wrong_with : Geometry → Page → Wrong
wrong_with g r = if lost_chunks g r == 0 then Turned (turned_bits g r) else Lost

-- pages as they read
abbrev pub read_image : Geometry → Image → Image
read_image g pages = map (read_as g) pages
