-- The map of a corrected dump: which rows of it have lost chunks, as the mapfile of GNU ddrescue says it.
use Rattle.std.specs.Prelude.{◌≡◌, ◌⊎◌, ℕ, zero, suc, ◌+◌, ◌-◌, ◌*◌, ◌<◌, ◌≤◌, nat_le, ◌==◌, if◌then◌else◌, false, List, [], ◌∷◌, ◌++◌, codes, length, map, get_or}
use Rattle.std.specs.Fmt.{digits}
use Rattle.page_layout.specs.declared.geometry.Geometry.{Geometry}
use Rattle.page_layout.specs.Geometry.{page_bytes, row_count}
use Rattle.page_layout.specs.Page.{Image}
use Rattle.lab_dump.specs.declared.map_head.Remark.TheVariants.{Dump}
use Rattle.lab_dump.specs.declared.mark.MapMark.{MapMark}
use Rattle.lab_dump.specs.declared.mark.MapMark.TheVariants.{Finished, Bad}
use Rattle.lab_dump.specs.Map.{area_words, map_head}
use Rattle.lab_correct.specs.declared.correcting.Loss.{Loss}
use Rattle.lab_correct.specs.Correcting.{losses_from}

-- the line of the rows from the first one to the one before the end, if there are any, of pages of this size
abbrev pub rows_text : ℕ → ℕ → ℕ → MapMark → List ℕ
rows_text size first end mark = if nat_le end first then [] else area_words (first * size) ((end - first) * size) mark ++ (10 ∷ [])

-- the lines of a lost row, and of the rows since this one
abbrev pub loss_text : ℕ → ℕ → ℕ → List ℕ
loss_text size next row = rows_text size next row Finished ++ rows_text size row (row + 1) Bad

-- the row of a loss
abbrev pub row_at : List Loss → ℕ → ℕ
row_at losses i = get_or (map (λ l. l.row) losses) i 0

-- the row behind the first losses, of which there are so many
abbrev pub next_row : List Loss → ℕ → ℕ
next_row losses n = if n == 0 then 0 else row_at losses (n - 1) + 1

-- the lines of the first losses, and of the rows between them
unfoldable pub parts_below : ℕ → List Loss → ℕ → List ℕ
parts_below size losses zero = []
parts_below size losses (suc n) = parts_below size losses n ++ loss_text size (next_row losses n) (row_at losses n)

-- THE MAP of a dump with these losses
abbrev pub loss_map_text : Geometry → List Loss → List ℕ
loss_map_text g losses =
    map_head Dump ++ (parts_below (page_bytes g) losses (length losses) ++ rows_text (page_bytes g) (next_row losses (length losses)) (row_count g) Finished)

-- ---- the law

-- a line of so many bytes, from a position on, that ends with this status
abbrev pub status_text : ℕ → ℕ → List ℕ → List ℕ
status_text position size status = (codes "0x" ++ (digits 16 false position ++ (codes " 0x" ++ (digits 16 false size ++ (codes " " ++ status))))) ++ (10 ∷ [])

-- A LOST ROW HAS A LINE WITH `-`, of its bytes alone, and behind the last one before it the rows between have one with `+`, where there are some. Of a dump that lost none there is
-- one line, `+`, of all its bytes.
pub record LossMapLaw : Type 0 where
  pub behind : (size next row : ℕ) → next < row → loss_text size next row ≡ status_text (next * size) ((row - next) * size) (codes "+") ++ status_text (row * size) size (codes "-")
  pub beside : (size row : ℕ) → loss_text size row row ≡ status_text (row * size) size (codes "-")
  pub none : (g : Geometry) → 0 < row_count g → loss_map_text g [] ≡ map_head Dump ++ status_text 0 (row_count g * page_bytes g) (codes "+")

-- ---- each row once

-- the losses are of rows from this one on and below so many, by rising row
abbrev pub AreRising : ℕ → List Loss → ℕ → Type 0
AreRising from [] rows = from ≤ rows
AreRising from (loss ∷ losses) rows = (from ≤ loss.row) × AreRising (loss.row + 1) losses rows

-- the row is one of those before loss i, behind the loss before that: of the last line, behind all losses
pub record IsBetweenLosses (losses : List Loss) (rows i row : ℕ) : Type 0 where
  pub part : i ≤ length losses
  pub first : next_row losses i ≤ row
  pub before : i < length losses → row < row_at losses i
  pub end : row < rows

-- it is that of loss i
pub record IsLostAs (losses : List Loss) (i row : ℕ) : Type 0 where
  pub part : i < length losses
  pub is : row ≡ row_at losses i

-- EACH ROW OF THE DUMP HAS ONE LINE OF THE MAP, AND ONE ALONE: that of the rows before a loss, or that of its loss. What `correct_dump` names is by rising row.
pub record OneLineLaw : Type 0 where
  pub named : (g : Geometry) (image : Image) → AreRising 0 (losses_from g 0 image) (length image)
  pub some : (losses : List Loss) (rows row : ℕ) → AreRising 0 losses rows → row < rows → ((i : ℕ) × IsBetweenLosses losses rows i row) ⊎ ((i : ℕ) × IsLostAs losses i row)
  pub between : (losses : List Loss) (rows row i j : ℕ) → AreRising 0 losses rows → IsBetweenLosses losses rows i row → IsBetweenLosses losses rows j row → i ≡ j
  pub lost : (losses : List Loss) (rows row i j : ℕ) → AreRising 0 losses rows → IsLostAs losses i row → IsLostAs losses j row → i ≡ j
  pub apart : (losses : List Loss) (rows row i j : ℕ) → AreRising 0 losses rows → IsBetweenLosses losses rows i row → ¬ IsLostAs losses j row
