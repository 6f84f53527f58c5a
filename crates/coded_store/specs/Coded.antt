-- THE STORE OVER A FILE OF PAGES WITH THEIR CODES: its file, and what was wrong with each row as it was last read.
use Rattle.std.specs.Prelude.{◌≡◌, ℕ, ◌*◌, Bool, true, false, List, length, replicate, slice_set, sum_by, count_by, Result}
use Rattle.page_layout.specs.declared.geometry.Geometry.{Geometry}
use Rattle.page_layout.specs.Geometry.{row_count}
use Rattle.page_layout.specs.Page.{Page, Image}
use Rattle.onfi_cycles.specs.Cycles.{page_of}
use Rattle.file_die.specs.Store.{Held}
use Rattle.file_die.specs.declared.bytes.ByteFault.{ByteFault}
use Rattle.page_code.specs.Layout.{coded}
use Rattle.file_die.specs.Bytes.{Bytes, Gives, TakesBytes, TakesFewer}
use Rattle.file_die.specs.Rows.{Rows, held_in, is_kept}
use Rattle.coded_store.specs.declared.wrong.Wrong.{Wrong}
use Rattle.coded_store.specs.declared.wrong.Wrong.TheVariants.{Turned, Lost}
use Rattle.coded_store.specs.declared.coded.Mended.{Mended}
use Rattle.coded_store.specs.Reading.{coded_bytes, read_as, page_as_read, wrong_with}
use Rattle.coded_store.specs.File.{IsWithCodes, image_with_codes}

pub record Coded (F : Type 0) : Type 0 where
  pub rows : Rows F
  pub wrong : List Wrong

-- nothing was wrong, since nothing was read
abbrev pub none_read : Geometry → List Wrong
none_read g = replicate (row_count g) (Turned 0)

-- what is true of its parts: a row has the bytes of a page with its codes
pub record AreCodedParts (g : Geometry) (size : ℕ) (buffer : List ℕ) (wrong : List Wrong) : Type 0 where
  pub sized : size ≡ coded_bytes g
  pub buffer_whole : length buffer ≡ coded_bytes g
  pub rows : length wrong ≡ row_count g

-- ---- what it holds

-- WHAT STANDS IN ITS FILE: the pages with their codes
abbrev pub standing_with_codes : {F : Type 0} → (F → Bytes) → Coded F → Image
standing_with_codes held s = image_with_codes s.rows.geometry (held s.rows.file).bytes

-- THE PAGES THAT IT HOLDS: what stands there, as it reads
abbrev pub reading : {F : Type 0} → (F → Bytes) → Coded F → Held
reading held s = held_in held (page_as_read s.rows.geometry) s.rows

-- whether these are kept
abbrev pub is_reading_kept : {F : Type 0} → (F → Bytes) → (F → Bool) → (F → ℕ → (List ℕ → Page) → Bool) → Coded F → Bool
is_reading_kept held honest tells s = is_kept held honest tells (page_as_read s.rows.geometry) s.rows

-- ---- a load

-- A LOAD OF A ROW, whatever the file does: of just the bytes that its reads gave, from the first of the row on, the page is shown, and what is wrong with
-- them is remembered of the row. `gave` is the file's own word for one read.
pub record ShowsRow {F : Type 0} (gave : F → ℕ → ℕ → Result (List ℕ) ByteFault → F → Type 0) (g : Geometry) (old new : Coded F) (row : ℕ) (shown : Page) : Type 0 where
  pub bytes : List ℕ
  pub once : Gives gave old.rows.file (row * coded_bytes g) bytes new.rows.file
  pub whole : IsWithCodes g (page_of g bytes)
  pub shows : shown ≡ read_as g (page_of g bytes)
  pub tells : new.wrong ≡ slice_set old.wrong row (wrong_with g (page_of g bytes))

-- ---- a change

-- A PUT OF A PAGE had the file take the bytes of the page with its codes, from the first of the row on, each write of all that were left. `wrote` is the
-- file's own word for one write.
pub record TakesWithCodes {F : Type 0} (wrote : F → ℕ → List ℕ → Result ℕ ByteFault → F → Type 0) (g : Geometry) (row : ℕ) (p : Page) (old new : Rows F) : Type 0 where
  pub bytes : List ℕ
  pub are : page_of g bytes ≡ coded g p
  pub takes : TakesBytes wrote old.file (row * coded_bytes g) bytes (length bytes) new.file

-- or fewer of them, where it failed
pub record TakesFewerWithCodes {F : Type 0} (wrote : F → ℕ → List ℕ → Result ℕ ByteFault → F → Type 0) (g : Geometry) (row : ℕ) (p : Page) (old new : Rows F) : Type 0 where
  pub bytes : List ℕ
  pub are : page_of g bytes ≡ coded g p
  pub takes : TakesFewer wrote old.file (row * coded_bytes g) bytes new.file

-- A CLEAR had it take as many bytes FFh as the pages of the block have with their codes, from its first row on
abbrev pub BlanksWithCodes : {F : Type 0} → (wrote : F → ℕ → List ℕ → Result ℕ ByteFault → F → Type 0) → (g : Geometry) → (block : ℕ) → (old new : Rows F) → Type 0
BlanksWithCodes wrote g block old new = (let n : ℕ = g.pages * coded_bytes g in TakesBytes wrote old.file (block * g.pages * coded_bytes g) (replicate n 255) n new.file)

-- or fewer, where it failed
abbrev pub BlanksFewerWithCodes : {F : Type 0} → (wrote : F → ℕ → List ℕ → Result ℕ ByteFault → F → Type 0) → (g : Geometry) → (block : ℕ) → (old new : Rows F) → Type 0
BlanksFewerWithCodes wrote g block old new = (let n : ℕ = g.pages * coded_bytes g in TakesFewer wrote old.file (block * g.pages * coded_bytes g) (replicate n 255) new.file)

-- ---- in all

abbrev pub turned_in : Wrong → ℕ
turned_in (Turned bits) = bits
turned_in Lost = 0

abbrev pub is_row_lost : Wrong → Bool
is_row_lost (Turned bits) = false
is_row_lost Lost = true

-- the bits that were turned back, and the rows that were lost, as each was last read
abbrev pub turned_of : List Wrong → ℕ
turned_of wrong = sum_by turned_in wrong

abbrev pub lost_of : List Wrong → ℕ
lost_of wrong = count_by is_row_lost wrong

abbrev pub mended_of : List Wrong → Mended
mended_of wrong = record { turned = turned_of wrong; lost = lost_of wrong }

abbrev pub nothing_wrong : Mended
nothing_wrong = record { turned = 0; lost = 0 }
