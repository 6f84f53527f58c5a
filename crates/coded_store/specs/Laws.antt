-- WHAT A FILE WITH CODES COMES TO: pages with wrong bits read as they were written.
use Rattle.std.specs.Prelude.{◌≡◌, ◌<◌, ◌+◌, ◌*◌, ℕ, zero, suc, ◌⊎◌, false, None, List, take, drop, length, replicate}
use Rattle.page_layout.specs.declared.geometry.Geometry.{Geometry}
use Rattle.page_layout.specs.Geometry.{row_count}
use Rattle.page_layout.specs.Page.{Page, Image, IsPage, IsImage}
use Rattle.page_layout.specs.Sound.{record_of, is_erased_page}
use Rattle.page_layout.specs.Change.{erased_page}
use Rattle.error_correction.specs.Correct.{wrong_bits}
use Rattle.page_code.specs.Layout.{chunk_count, coded}
use Rattle.page_code.specs.Near.{IsNear}
use Rattle.page_code.specs.Wrong.{bits_wrong}
use Rattle.corrected_nand.specs.Shown.{lost_page}
use Rattle.file_die.specs.Store.{page_in}
use Rattle.coded_store.specs.declared.wrong.Wrong.{Wrong}
use Rattle.coded_store.specs.declared.wrong.Wrong.TheVariants.{Turned, Lost}
use Rattle.file_die.specs.Rows.{read_rows}
use Rattle.coded_store.specs.Reading.{coded_bytes, read_as, page_as_read, wrong_with, read_image, erased_with_codes}
use Rattle.coded_store.specs.File.{IsWithCodes, image_with_codes}

-- the page is shown, and this is told of it
pub record ReadsCoded (g : Geometry) (stands page : Page) (wrong : Wrong) : Type 0 where
  pub shows : read_as g stands ≡ page
  pub tells : wrong_with g stands ≡ wrong

-- A page of which at most one bit is wrong in each chunk with its code reads as it was written, and just the bits that are wrong are told
abbrev pub OneBitMendedLaw : Type 0
OneBitMendedLaw = (g : Geometry) (p stands : Page) → IsPage g p → IsWithCodes g stands → IsNear g p stands → ReadsCoded g stands p (Turned (bits_wrong g p stands))

-- a chunk of the data area, with its code, of which two bits are wrong
abbrev pub HasTwoIn : ℕ → List ℕ → List ℕ → List ℕ → Type 0
HasTwoIn zero right body codes = ⊥
HasTwoIn (suc n) right body codes = (wrong_bits (take 256 right) (take 256 body) (take 3 codes) ≡ 2) ⊎ HasTwoIn n (drop 256 right) (drop 256 body) (drop 3 codes)

-- a chunk of the page, the spare area being one, of which two bits are wrong
abbrev pub HasTwoWrongBits : Geometry → Page → Page → Type 0
HasTwoWrongBits g p stands =
    (wrong_bits p.spare (take g.spare_bytes stands.spare) (take 3 (drop g.spare_bytes stands.spare)) ≡ 2)
    ⊎ HasTwoIn (chunk_count g) p.body stands.body (drop (g.spare_bytes + 3) stands.spare)

-- One of which two bits of a chunk are wrong is lost, and that is told
abbrev pub TwoBitsLostLaw : Type 0
TwoBitsLostLaw = (g : Geometry) (p stands : Page) → IsPage g p → IsWithCodes g stands → HasTwoWrongBits g p stands → ReadsCoded g stands (lost_page g) Lost

-- bytes that are near to a page are shown as it, and just so many bits are told as are wrong
pub record IsMended (g : Geometry) (stands : Page) : Type 0 where
  pub page : Page
  pub is_page : IsPage g page
  pub near : IsNear g page stands
  pub reads : ReadsCoded g stands page (Turned (bits_wrong g page stands))

-- those that are near to none are lost
pub record IsFarAndLost (g : Geometry) (stands : Page) : Type 0 where
  pub far : (p : Page) → IsPage g p → IsNear g p stands → ⊥
  pub reads : ReadsCoded g stands (lost_page g) Lost

-- ANY BYTES, such as a file may give that is not honest
abbrev pub AnyLaw : Type 0
AnyLaw = (g : Geometry) (stands : Page) → IsWithCodes g stands → IsMended g stands ⊎ IsFarAndLost g stands

-- the page that is lost has no record, and is not erased
pub record IsNoPage (p : Page) : Type 0 where
  pub unsound : record_of p ≡ None
  pub unerased : is_erased_page p ≡ false

abbrev pub LostIsNoPageLaw : Type 0
LostIsNoPageLaw = (g : Geometry) → IsNoPage (lost_page g)

-- a page as it is written reads so, and nothing is wrong with it
abbrev pub OwnLaw : Type 0
OwnLaw = (g : Geometry) (p : Page) → IsPage g p → ReadsCoded g (coded g p) p (Turned 0)

-- an erased page has erased codes
abbrev pub ErasedCodesLaw : Type 0
ErasedCodesLaw = (g : Geometry) → coded g (erased_page g) ≡ erased_with_codes g

-- a file of erased pages reads as a store of such
abbrev pub BlankLaw : Type 0
BlankLaw = (g : Geometry) → read_image g (replicate (row_count g) (erased_with_codes g)) ≡ replicate (row_count g) (erased_page g)

-- as one of FFh bytes is
abbrev pub BlankFileLaw : Type 0
BlankFileLaw = (g : Geometry) → image_with_codes g (replicate (row_count g * coded_bytes g) 255) ≡ replicate (row_count g) (erased_with_codes g)

-- the pages that a store holds are what stands in its file, as that reads
abbrev pub RowsLaw : Type 0
RowsLaw = (g : Geometry) (bytes : List ℕ) → read_rows (page_as_read g) (coded_bytes g) (row_count g) bytes ≡ read_image g (image_with_codes g bytes)

-- each row is near to that of an image
pub record AreRowsNear (g : Geometry) (image stand : Image) : Type 0 where
  pub rows : length stand ≡ row_count g
  pub with_codes : (row : ℕ) → row < row_count g → IsWithCodes g (page_in stand row)
  pub near : (row : ℕ) → row < row_count g → IsNear g (page_in image row) (page_in stand row)

-- A FILE IN WHICH AT MOST ONE BIT OF EACH CHUNK IS WRONG reads as it was written
abbrev pub FileLaw : Type 0
FileLaw = (g : Geometry) (image stand : Image) → IsImage g image → AreRowsNear g image stand → read_image g stand ≡ image
