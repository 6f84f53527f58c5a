-- What reading a dump without its codes comes to, each law as one statement.
use Rattle.std.specs.Prelude.{◌≡◌, ◌≢◌, ℕ, ◌+◌, ◌*◌, ◌/◌, ◌<◌, List, length}
use Rattle.page_layout.specs.declared.geometry.Geometry.{Geometry}
use Rattle.page_layout.specs.Page.{Page, IsPage}
use Rattle.page_code.specs.Near.{IsNear, HasChipSizes}
use Rattle.page_code.specs.Corrected.{AreBytesOf, lost_chunks}
use Rattle.page_layout.specs.declared.look.PageLook.TheVariants.{Unsound}
use Rattle.page_layout.specs.PageLook.{look_of}
use Rattle.lab_dump.specs.Pages.{dump_page_at}
use Rattle.lab_correct.specs.Decoded.{decoded, decoded_at, decoded_bytes, raw_size}

-- a page with at most one wrong bit in each chunk is as good as one without: it is read as it was written
abbrev pub NearPageLaw : Type 0
NearPageLaw = (g : Geometry) (p r : Page) → IsPage g p → HasChipSizes g r → AreBytesOf r → IsNear g p r → decoded g.data_bytes g.spare_bytes r ≡ p

-- one with a lost chunk is neither sound nor erased, whatever it was
abbrev pub LostPageLaw : Type 0
LostPageLaw = (g : Geometry) (r : Page) → lost_chunks g r ≢ 0 → look_of (decoded g.data_bytes g.spare_bytes r) ≡ Unsound

-- the dump without the codes has a page for each whole page of the chip
abbrev pub DecodedSizeLaw : Type 0
DecodedSizeLaw = (data_bytes spare_bytes : ℕ) (all : List ℕ) → length (decoded_bytes data_bytes spare_bytes all) ≡ length all / raw_size data_bytes spare_bytes * (data_bytes + spare_bytes)

-- and that is the chip's, so read
abbrev pub DecodedRowLaw : Type 0
DecodedRowLaw = (data_bytes spare_bytes row : ℕ) (all : List ℕ) → row < length all / raw_size data_bytes spare_bytes → dump_page_at data_bytes spare_bytes (decoded_bytes data_bytes spare_bytes all) row ≡ decoded_at data_bytes spare_bytes all row
