-- What the faults of a command's words and files say.
use Rattle.std.specs.Prelude.{◌≡◌, ◌⊎◌, ℕ, List, Some, None, Err}
use Rattle.page_layout.specs.declared.geometry.Geometry.{Geometry}
use Rattle.page_layout.specs.Faults.{HasNumbers, IsFirstFault}
use Rattle.program_words.specs.declared.numbers.GeometryNumbers.{GeometryNumbers}
use Rattle.program_words.specs.Numbers.{SpellsGeometry, number_of}
use Rattle.commands.specs.declared.files.FileFault.TheVariants as file
use Rattle.commands.specs.declared.text.CommandFault.{CommandFault}
use Rattle.commands.specs.declared.text.CommandFault.TheVariants as fault
use Rattle.commands.specs.Files.{LoadAnswers}

-- the fault names the word as no number
abbrev pub IsBadNumber : List ℕ → CommandFault → Type 0
IsBadNumber text (fault.BadNumber word) = word.now ≡ text
IsBadNumber text _ = ⊥

-- the fault names the first limit that the numbers break
abbrev pub IsBadGeometry : GeometryNumbers → CommandFault → Type 0
IsBadGeometry numbers (fault.Geometry broken) = IsFirstFault numbers.data_bytes numbers.spare_bytes numbers.pages numbers.blocks numbers.sectors broken
IsBadGeometry numbers _ = ⊥

-- one word writes the numbers of a geometry, and the other a number
pub record AreNumbers (sizes count : List ℕ) (g : Geometry) (n : ℕ) : Type 0 where
  pub numbers : GeometryNumbers
  pub spelled : SpellsGeometry sizes numbers
  pub number_is : number_of count ≡ Some n
  pub valid : HasNumbers numbers.data_bytes numbers.spare_bytes numbers.pages numbers.blocks numbers.sectors g

-- why they do not: the first word that is no number, else the first limit of a die
abbrev pub AreNoNumbers : List ℕ → List ℕ → CommandFault → Type 0
AreNoNumbers sizes count (fault.BadNumber word) =
    ((word.now ≡ sizes) × ((numbers : GeometryNumbers) → ¬ SpellsGeometry sizes numbers))
    ⊎ ((word.now ≡ count) × ((numbers : GeometryNumbers) × SpellsGeometry sizes numbers) × (number_of count ≡ None))
AreNoNumbers sizes count (fault.Geometry broken) =
    (numbers : GeometryNumbers) × (n : ℕ) × SpellsGeometry sizes numbers × (number_of count ≡ Some n)
    × IsFirstFault numbers.data_bytes numbers.spare_bytes numbers.pages numbers.blocks numbers.sectors broken
AreNoNumbers sizes count _ = ⊥

-- the fault says that the path's file was not read, for itself or for want of memory, as the load answered
abbrev pub TellsUnread : LoadAnswers → List ℕ → CommandFault → Type 0
TellsUnread gives text (fault.Read path) = (path.now ≡ text) × gives text (Err file.Failed)
TellsUnread gives text fault.OutOfMemory = gives text (Err file.OutOfMemory)
TellsUnread gives text _ = ⊥
