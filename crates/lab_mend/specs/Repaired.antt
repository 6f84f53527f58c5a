-- What was written in the end.
use Rattle.std.specs.Prelude.{◌≡◌, ℕ, true, false, All, List, length, map, slice_get, Option, Some, option_map, IfSome}
use Rattle.std.specs.List.{enumerate_from}
use Rattle.page_layout.specs.declared.geometry.Geometry.{Geometry}
use Rattle.page_layout.specs.Geometry.{row_count}
use Rattle.page_layout.specs.Page.{Image}
use Rattle.page_layout.specs.Raw.{raw_image, bytes_of_page}
use Rattle.lab_dump.specs.Scan.{image_bytes}
use Rattle.lab_dump.specs.Rows.{is_asked}
use Rattle.lab_mend.specs.declared.repairing.Mend.{Mend}
use Rattle.lab_mend.specs.declared.repairing.RepairAsked.{RepairAsked}
use Rattle.lab_mend.specs.Repairing.{mends_below, repaired_bytes, piece_to_write, AreMendedOwn, AreMendsListed}

-- the rows whose pages were to be mended, each with what was turned, by rising row
abbrev pub mends_of : RepairAsked → Image → List Mend
mends_of asked image = mends_below asked image (length image)

-- the bytes that are written of an image's pages, row by row: of each row that is asked for the repaired page's
abbrev pub pieces_of : RepairAsked → Image → List (List ℕ)
pieces_of asked image = map (λ numbered. piece_to_write asked numbered.0 numbered.1) (enumerate_from 0 image)

-- The bytes are as many as an image has, and the pieces are what is written of the pages of the image that they are.
pub record IsRepaired (g : Geometry) (asked : RepairAsked) (pieces : Option (List (List ℕ))) (mends : List Mend) (bytes : List ℕ) : Type 0 where
  pub whole : length bytes ≡ image_bytes g
  pub pages : IfSome pieces (λ ps. ps ≡ pieces_of asked (raw_image g bytes))
  pub mends_are : mends ≡ mends_of asked (raw_image g bytes)

-- whatever the reader gave, each piece is what is written of a page, by what the list names of its row
pub record IsOwnRepair (g : Geometry) (asked : RepairAsked) (pieces : Option (List (List ℕ))) (mends : List Mend) : Type 0 where
  pub listed : AreMendsListed (row_count g) mends
  pub own : IfSome pieces (AreMendedOwn g asked (row_count g) mends)

-- ---- law

-- each row that is asked for has the repaired page, each other one its own page byte for byte, and only rows that are asked for are listed
pub record AreWritten (asked : RepairAsked) (image : Image) (pieces : List (List ℕ)) (mends : List Mend) : Type 0 where
  pub mended : (row : ℕ) → is_asked asked.rows row ≡ true → slice_get pieces row ≡ option_map (repaired_bytes asked.bits) (slice_get image row)
  pub kept : (row : ℕ) → is_asked asked.rows row ≡ false → slice_get pieces row ≡ option_map bytes_of_page (slice_get image row)
  pub listed : All (λ m. is_asked asked.rows m.row ≡ true) mends

-- What was repaired for some rows is so.
abbrev pub RepairedRowsLaw : Type 0
RepairedRowsLaw = (g : Geometry) (asked : RepairAsked) (pieces : List (List ℕ)) (mends : List Mend) (bytes : List ℕ) → IsRepaired g asked (Some pieces) mends bytes → AreWritten asked (raw_image g bytes) pieces mends
