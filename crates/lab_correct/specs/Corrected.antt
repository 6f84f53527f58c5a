-- What is written of a dump of a chip in the end.
use Rattle.std.specs.Prelude.{◌≡◌, ℕ, All, List, [], length, map, slice_get, Option, Some, IfSome}
use Rattle.page_layout.specs.declared.geometry.Geometry.{Geometry}
use Rattle.page_layout.specs.Geometry.{row_count}
use Rattle.page_layout.specs.Page.{Page, Image, IsImage}
use Rattle.page_layout.specs.Raw.{raw_image, bytes_of_page}
use Rattle.error_correction.specs.Bits.{AreBytes}
use Rattle.page_code.specs.Chip.{IsChipOf}
use Rattle.page_code.specs.Near.{IsNear, HasChipSizes}
use Rattle.lab_dump.specs.Scan.{image_bytes}
use Rattle.lab_correct.specs.declared.correcting.Loss.{Loss}
use Rattle.lab_correct.specs.Correcting.{corrected_piece, turned_in_image, touched_in, losses_from}

-- the pieces are those of the chip's pages, each put right, and the counts are theirs
pub record IsCorrectedOf (g : Geometry) (pages : Image) (pieces : Option (List (List ℕ))) (turned touched : ℕ) (losses : List Loss) : Type 0 where
  pub pieces_are : IfSome pieces (λ ps. ps ≡ map (corrected_piece g) pages)
  pub turned_is : turned ≡ turned_in_image g pages
  pub touched_is : touched ≡ touched_in g pages
  pub losses_are : losses ≡ losses_from g 0 pages

-- The bytes are as many as the chip's pages have, and those are the pages that were put right.
pub record IsCorrected (g chip : Geometry) (pieces : Option (List (List ℕ))) (turned touched : ℕ) (losses : List Loss) (bytes : List ℕ) : Type 0 where
  pub whole : length bytes ≡ image_bytes chip
  pub pages : IsCorrectedOf g (raw_image chip bytes) pieces turned touched losses

-- Whatever the reader gave, some pages of the chip's sizes were put right, one for each row.
pub record IsOwnCorrected (g : Geometry) (pieces : Option (List (List ℕ))) (turned touched : ℕ) (losses : List Loss) : Type 0 where
  pub pages : Image
  pub rows : length pages ≡ row_count g
  pub sized : All (HasChipSizes g) pages
  pub are : IsCorrectedOf g pages pieces turned touched losses

-- ---- law

-- each page of the chip is near to that of the image, so that of each chunk with its code at most one bit is wrong
abbrev pub AreNearTo : Geometry → Image → Image → Type 0
AreNearTo g image pages = (row : ℕ) (p r : Page) → slice_get image row ≡ Some p → slice_get pages row ≡ Some r → IsNear g p r

-- A DUMP WITH AT MOST ONE WRONG BIT IN EACH CHUNK GIVES THE PAGES, and no row is named.
pub record GivesPages (image : Image) (pieces : List (List ℕ)) (losses : List Loss) : Type 0 where
  pub pieces_are : pieces ≡ map bytes_of_page image
  pub none_lost : losses ≡ []

abbrev pub CorrectedLaw : Type 0
CorrectedLaw = (g chip : Geometry) (image : Image) (pieces : List (List ℕ)) (turned touched : ℕ) (losses : List Loss) (bytes : List ℕ) → IsChipOf g chip → IsImage g image → AreBytes bytes
    → IsCorrected g chip (Some pieces) turned touched losses bytes → AreNearTo g image (raw_image chip bytes) → GivesPages image pieces losses
