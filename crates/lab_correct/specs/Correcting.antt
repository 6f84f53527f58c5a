-- What is written and counted of the pages of a chip, as they are taken.
use Rattle.std.specs.Prelude.{◌≡◌, ℕ, ◌+◌, ◌*◌, ◌≤◌, ◌==◌, if◌then◌else◌, All, List, [], ◌∷◌, ◌++◌, length, map, take, Option, Some, None, IfSome}
use Rattle.std.specs.List.{sum_by, cons_option}
use Rattle.page_layout.specs.declared.geometry.Geometry.{Geometry}
use Rattle.page_layout.specs.Geometry.{row_count, page_bytes}
use Rattle.page_layout.specs.Page.{Page, Image}
use Rattle.page_layout.specs.Raw.{bytes_of_page}
use Rattle.page_code.specs.Chip.{IsChipOf}
use Rattle.page_code.specs.Near.{HasChipSizes}
use Rattle.page_code.specs.Corrected.{corrected_page, turned_bits, lost_chunks}
use Rattle.lab_correct.specs.declared.correcting.Loss.{Loss}

-- ---- of a page

-- the bytes that are written of a page of the chip
abbrev pub corrected_piece : Geometry → Page → List ℕ
corrected_piece g r = bytes_of_page (corrected_page g r)

-- one where some bit was turned back
abbrev pub touches : ℕ → ℕ
touches turned = if turned == 0 then 0 else 1

-- a row with its lost chunks, where some are
abbrev pub loss_at : ℕ → ℕ → Option Loss
loss_at row chunks = if chunks == 0 then None else Some (record { row = row; chunks = chunks })

-- these bytes and counts are those of a page
pub record IsPieceMade (g : Geometry) (r : Page) (turned lost : ℕ) (scratch : List ℕ) : Type 0 where
  pub piece : scratch ≡ corrected_piece g r
  pub turned_is : turned ≡ turned_bits g r
  pub lost_is : lost ≡ lost_chunks g r

-- ---- of all pages

-- how many bits are turned back, and of how many pages
abbrev pub turned_in_image : Geometry → Image → ℕ
turned_in_image g image = sum_by (turned_bits g) image

abbrev pub touched_in : Geometry → Image → ℕ
touched_in g image = sum_by (λ r. touches (turned_bits g r)) image

-- the rows with lost chunks, by rising row, where the first page is that of this row
abbrev pub losses_from : Geometry → ℕ → Image → List Loss
losses_from g row [] = []
losses_from g row (r ∷ rs) = cons_option (loss_at row (lost_chunks g r)) (losses_from g (row + 1) rs)

-- a list of losses with one row more
abbrev pub losses_with_row : List Loss → ℕ → ℕ → List Loss
losses_with_row losses row chunks = losses ++ cons_option (loss_at row chunks) []

-- ---- as they are taken

-- the first pieces are those of these pages, and the counts are theirs
pub record ShowsCorrected (g : Geometry) (rows : ℕ) (seen : Image) (pieces : Option (List (List ℕ))) (turned touched : ℕ) (losses : List Loss) : Type 0 where
  pub pieces_are : IfSome pieces (λ ps. take rows ps ≡ map (corrected_piece g) seen)
  pub turned_is : turned ≡ turned_in_image g seen
  pub touched_is : touched ≡ touched_in g seen
  pub losses_are : losses ≡ losses_from g 0 seen

-- whatever they were, there were so many pages of the chip's sizes, of which that holds
pub record HasSeen (g : Geometry) (rows : ℕ) (pieces : Option (List (List ℕ))) (turned touched : ℕ) (losses : List Loss) : Type 0 where
  pub seen : Image
  pub count : length seen ≡ rows
  pub sized : All (HasChipSizes g) seen
  pub shows : ShowsCorrected g rows seen pieces turned touched losses

pub record CorrectingStands (g chip : Geometry) (rows : ℕ) (scratch : List ℕ) (turned touched : ℕ) (losses : List Loss) (capacity : ℕ) (pieces : Option (List (List ℕ))) : Type 0 where
  pub of : IsChipOf g chip
  pub scratch_size : length scratch ≡ page_bytes g
  pub few_turned : turned ≤ 32 * rows
  pub few_touched : touched ≤ rows
  pub few_losses : length losses ≤ rows
  pub room : row_count chip ≤ capacity
  pub sized : IfSome pieces (λ ps. length ps ≡ row_count chip)
  pub has : HasSeen g rows pieces turned touched losses
