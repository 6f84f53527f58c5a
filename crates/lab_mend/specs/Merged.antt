-- What was written of several readings in the end, and why nothing was.
use Rattle.std.specs.Prelude.{◌≡◌, ◌⊎◌, ℕ, ◌*◌, ◌<◌, Bool, true, false, List, [], length, get_or, map, Option, IfSome}
use Rattle.std.specs.List.{range_with_len}
use Rattle.page_layout.specs.declared.geometry.Geometry.{Geometry}
use Rattle.page_layout.specs.Geometry.{row_count, page_bytes}
use Rattle.page_layout.specs.Page.{Page}
use Rattle.page_layout.specs.Raw.{page_from}
use Rattle.lab_dump.specs.Scan.{image_bytes}
use Rattle.image_check.specs.declared.page_reader.Cut.{Cut}
use Rattle.image_check.specs.declared.page_reader.Cut.TheVariants as cut
use Rattle.lab_dump.specs.declared.pass.PassFault.{PassFault}
use Rattle.lab_dump.specs.declared.pass.PassFault.TheVariants as scan
use Rattle.lab_mend.specs.declared.merging.RowTally.{RowTally}
use Rattle.lab_mend.specs.declared.merging.TriedRow.{TriedRow}
use Rattle.lab_mend.specs.declared.merge.MergeFault.{MergeFault}
use Rattle.lab_mend.specs.declared.merge.MergeFault.TheVariants as fault
use Rattle.lab_mend.specs.InStep.{EndsEarly, EndsLate}
use Rattle.lab_mend.specs.Merging.{piece_of, conflicts_below, unsound_rows_below, tried_below, tally_below, AreRowsListed, AreTried, AreMergedPieces}

-- the pages of a row, one of each reading
abbrev pub pages_of_row : Geometry → List (List ℕ) → ℕ → List Page
pages_of_row g files row = map (λ file. page_from g file (row * page_bytes g)) files

-- Each reading has as many bytes as an image. The pieces are the pages that are written of the rows, in order; the rows that are named are those of
-- which two sound pages differ, those of which a page was written as it is that is neither erased nor sound, and those of which pages were tried, by
-- rising row; and the others are counted by what was written of them.
pub record IsMerged (g : Geometry) (files : List (List ℕ)) (conflicts unsound : List ℕ) (tried : List TriedRow) (tally : RowTally) (pieces : Option (List (List ℕ))) : Type 0 where
  pub whole : (i : ℕ) → i < length files → length (get_or files i []) ≡ image_bytes g
  pub pages : IfSome pieces (λ ps. ps ≡ map (λ row. piece_of g (pages_of_row g files row)) (range_with_len 0 (row_count g)))
  pub conflicts_are : conflicts ≡ conflicts_below g (pages_of_row g files) (row_count g)
  pub unsound_are : unsound ≡ unsound_rows_below g (pages_of_row g files) (row_count g)
  pub tried_are : tried ≡ tried_below g (pages_of_row g files) (row_count g)
  pub tally_is : tally ≡ tally_below g (pages_of_row g files) (row_count g)

-- whatever the readers gave
pub record IsOwnMerge (g : Geometry) (conflicts unsound : List ℕ) (tried : List TriedRow) (pieces : Option (List (List ℕ))) : Type 0 where
  pub listed : AreRowsListed (row_count g) conflicts
  pub unsound_listed : AreRowsListed (row_count g) unsound
  pub tried_listed : AreTried (row_count g) tried
  pub own : IfSome pieces (AreMergedPieces g (row_count g) conflicts)

-- The reading of this number has another length than an image, and no other is seen to be before it: each has the pages before a row, those of a lower number that of
-- the row too, and this one has not; or each has an image, those of a lower number no more, and this one has.
pub record IsOddFirst (g : Geometry) (files : List (List ℕ)) (i : ℕ) : Type 0 where
  pub within : i < length files
  pub odd : ¬ (length (get_or files i []) ≡ image_bytes g)
  pub first : ((row : ℕ) × (row < row_count g) × EndsEarly files i (row * page_bytes g) (page_bytes g)) ⊎ EndsLate files i (image_bytes g)

-- `WrongLength` names the first reading that is seen to have another length, row by row and in their order
abbrev pub IsUnmerged : Geometry → List (List ℕ) → MergeFault → Type 0
IsUnmerged g files (fault.WrongLength i) = IsOddFirst g files i
IsUnmerged g files (fault.Source i) = i < length files
IsUnmerged g files fault.Target = Unit {0}

-- a fault that names a reading names one of so many
abbrev pub IsOfReading : ℕ → MergeFault → Type 0
IsOfReading count (fault.WrongLength i) = i < count
IsOfReading count (fault.Source i) = i < count
IsOfReading count fault.Target = Unit {0}

-- a fault of a reading or of the file says that it has failed
abbrev pub IsPinned : List Bool → Bool → MergeFault → Type 0
IsPinned failed target (fault.WrongLength i) = Unit {0}
IsPinned failed target (fault.Source i) = get_or failed i false ≡ true
IsPinned failed target fault.Target = target ≡ true

-- the fault of a reading that ended early or failed
abbrev pub fault_of_cut : ℕ → Cut → MergeFault
fault_of_cut i cut.Ended = fault.WrongLength i
fault_of_cut i cut.Failed = fault.Source i

-- of one that is not at its end
abbrev pub fault_of_end : ℕ → PassFault → MergeFault
fault_of_end i scan.WrongLength = fault.WrongLength i
fault_of_end i scan.Source = fault.Source i
fault_of_end i scan.Stopped = fault.Source i
