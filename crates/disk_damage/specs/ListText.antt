-- THE LIST OF LOST SECTORS BESIDE A DISK.
use Rattle.std.specs.Prelude.{◌≡◌, ◌≢◌, ℕ, ◌+◌, Bool, true, false, List, [], ◌∷◌, ◌++◌, map, length, codes}
use Rattle.disk_damage.specs.declared.list_text.ListFault.{ListFault}
use Rattle.disk_damage.specs.declared.list_text.ListFault.TheVariants.{Length, Letter, OutOfMemory}

-- `L` for a sector that is lost, `.` for one that is not
abbrev pub letter : Bool → ℕ
letter true = 76
letter false = 46

-- a letter for each sector, and a line feed
abbrev pub list_text : List Bool → List ℕ
list_text lost = map letter lost ++ (10 ∷ [])

-- THE BYTES ARE THE LIST of so many sectors
pub record IsListText (text : List ℕ) (sectors : ℕ) (lost : List Bool) : Type 0 where
  pub size : length lost ≡ sectors
  pub is : text ≡ list_text lost

-- why they are none: they are too many or too few, or as many and still no list; a growth may have been refused whatever they are
abbrev pub IsNoList : List ℕ → (sectors : ℕ) → ListFault → Type 0
IsNoList text sectors Length = length text ≢ sectors + 1
IsNoList text sectors Letter = (length text ≡ sectors + 1) × ((lost : List Bool) → ¬ IsListText text sectors lost)
IsNoList text sectors OutOfMemory = Unit {0}

abbrev pub list_words : ListFault → List ℕ
list_words Length = codes "no list of so many sectors"
list_words Letter = codes "no list of sectors"
list_words OutOfMemory = codes "out of memory"

-- A LIST IS READ AS IT WAS WRITTEN
abbrev pub ListLaw : Type 0
ListLaw = (lost read : List Bool) (sectors : ℕ) → IsListText (list_text lost) sectors read → (read ≡ lost) × (length lost ≡ sectors)

-- AND ONE THAT WAS CUT SHORT, or to which something was added, is the list of as many sectors of no disk that had it
abbrev pub CutListLaw : Type 0
CutListLaw = (lost read : List Bool) (text : List ℕ) → IsListText text (length lost) read → length text ≡ length (list_text lost)
