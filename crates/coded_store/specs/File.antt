-- A FILE OF PAGES WITH THEIR CODES: what stands in it, as bytes and as pages.
use Rattle.std.specs.Prelude.{ℕ, List}
use Rattle.page_layout.specs.declared.geometry.Geometry.{Geometry}
use Rattle.page_layout.specs.Geometry.{row_count}
use Rattle.page_layout.specs.Page.{Page, Image}
use Rattle.onfi_cycles.specs.Cycles.{page_of}
use Rattle.file_die.specs.Rows.{read_rows}
use Rattle.page_code.specs.Near.{HasChipSizes}
use Rattle.page_code.specs.Corrected.{AreBytesOf}
use Rattle.coded_store.specs.Reading.{coded_bytes}

-- a page with its codes: bytes, as many as it has there
pub record IsWithCodes (g : Geometry) (r : Page) : Type 0 where
  pub sizes : HasChipSizes g r
  pub bytes : AreBytesOf r

-- the pages that bytes are, in row order, each its data area and then its spare area as on a chip
abbrev pub image_with_codes : Geometry → List ℕ → Image
image_with_codes g bytes = read_rows (page_of g) (coded_bytes g) (row_count g) bytes
