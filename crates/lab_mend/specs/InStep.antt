-- Readers that are read in step.
use Rattle.std.specs.Prelude.{◌≡◌, ℕ, ◌+◌, ◌<◌, ◌≤◌, List, [], length, get_or, map, drop, slice_range, Option, Some, None}
use Rattle.image_check.specs.declared.page_reader.Cut.{Cut}
use Rattle.image_check.specs.declared.page_reader.Cut.TheVariants.{Ended, Failed}
use Rattle.lab_dump.specs.declared.pass.PassFault.{PassFault}
use Rattle.lab_dump.specs.declared.pass.PassFault.TheVariants as fault
use Rattle.lab_mend.specs.declared.in_step.ReadingCut.{ReadingCut}
use Rattle.lab_mend.specs.declared.in_step.ReadingFault.{ReadingFault}
use Rattle.lab_mend.specs.Pages.{piece_at}

-- what is known of a reader that has read so many bytes of this file, and no more
pub record IsAt (known : Option (List ℕ)) (file : List ℕ) (at : ℕ) : Type 0 where
  pub left : known ≡ Some (drop at file)
  pub within : at ≤ length file

-- each reader tells its bytes, and has read so many of its own file
pub record AreAt (known : List (Option (List ℕ))) (files : List (List ℕ)) (at : ℕ) : Type 0 where
  pub size : length known ≡ length files
  pub each : (i : ℕ) → i < length files → IsAt (get_or known i None) (get_or files i []) at

-- the first readers have read a piece of this size more, which stands among the pieces; the others have not
pub record AreBetween (known : List (Option (List ℕ))) (files : List (List ℕ)) (at size : ℕ) (pieces : List ℕ) (first : ℕ) : Type 0 where
  pub count : length known ≡ length files
  pub read : (i : ℕ) → i < first → IsAt (get_or known i None) (get_or files i []) (at + size)
  pub are : (i : ℕ) → i < first → piece_at pieces size i ≡ slice_range (get_or files i []) at (at + size)
  pub unread : (i : ℕ) → first ≤ i → i < length files → IsAt (get_or known i None) (get_or files i []) at

-- each has read a piece of this size more, and these are the pieces
pub record AreRead (known : List (Option (List ℕ))) (files : List (List ℕ)) (at size : ℕ) (pieces : List ℕ) : Type 0 where
  pub now : AreAt known files (at + size)
  pub are : (i : ℕ) → i < length files → piece_at pieces size i ≡ slice_range (get_or files i []) at (at + size)

-- each file has so many bytes, the first ones a piece of this size more, and the file of this number, behind them, has not
pub record EndsEarly (files : List (List ℕ)) (i at size : ℕ) : Type 0 where
  pub within : i < length files
  pub each : (j : ℕ) → j < length files → at ≤ length (get_or files j [])
  pub earlier : (j : ℕ) → j < i → at + size ≤ length (get_or files j [])
  pub short : length (get_or files i []) < at + size

abbrev pub CutAt : List (List ℕ) → (at size : ℕ) → ℕ → Cut → Type 0
CutAt files at size i Ended = EndsEarly files i at size
CutAt files at size i Failed = i < length files

-- why a piece of this size was not read from this byte on
abbrev pub IsShortAt : List (List ℕ) → (at size : ℕ) → ReadingCut → Type 0
IsShortAt files at size r = CutAt files at size r.reading r.cut

-- each file has just so many bytes
abbrev pub HaveEnded : List (List ℕ) → ℕ → Type 0
HaveEnded files at = (i : ℕ) → i < length files → length (get_or files i []) ≡ at

-- each file has so many bytes, the first ones no more, and the file of this number, behind them, has more
pub record EndsLate (files : List (List ℕ)) (i at : ℕ) : Type 0 where
  pub within : i < length files
  pub each : (j : ℕ) → j < length files → at ≤ length (get_or files j [])
  pub earlier : (j : ℕ) → j < i → length (get_or files j []) ≡ at
  pub long : at < length (get_or files i [])

abbrev pub LongAt : List (List ℕ) → ℕ → ℕ → PassFault → Type 0
LongAt files at i fault.WrongLength = EndsLate files i at
LongAt files at i fault.Source = i < length files
LongAt files at i fault.Stopped = ⊥

-- why a reader is not at its end
abbrev pub IsLongAt : List (List ℕ) → ℕ → ReadingFault → Type 0
IsLongAt files at r = LongAt files at r.reading r.fault
