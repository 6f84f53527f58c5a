-- What the word of a command says of the rows that are asked for.
use Rattle.std.specs.Prelude.{◌≡◌, ℕ, ◌≤◌, List, ◌∷◌, ◌++◌, Option, Some, None}
use Rattle.std.specs.Borrow.{Bor}
use Rattle.page_layout.specs.declared.geometry.Geometry.{Geometry}
use Rattle.page_layout.specs.Geometry.{row_count}
use Rattle.program_words.specs.Numbers.{number_of}
use Rattle.lab_dump.specs.declared.rows.Rows.{Rows}
use Rattle.lab_commands.specs.declared.text.LabFault.{LabFault}
use Rattle.lab_commands.specs.declared.text.LabFault.TheVariants as fault

-- the first row, two dots, and the one past the last
abbrev pub SpellsRows : List ℕ → Rows → Type 0
SpellsRows word rows =
    (first : List ℕ) × (end : List ℕ) × (word ≡ first ++ (46 ∷ 46 ∷ end)) × (number_of first ≡ Some rows.first) × (number_of end ≡ Some rows.end)

-- they are rows of such a die, or none
abbrev pub AreOf : Geometry → Rows → Type 0
AreOf g rows = (rows.first ≤ rows.end) × (rows.end ≤ row_count g)

-- the word asks for these rows of such a die; without a word each is asked for
abbrev pub AreRowsAt : Option (Bor (List ℕ)) → Geometry → Option Rows → Type 0
AreRowsAt None g rows = rows ≡ None
AreRowsAt (Some word) g rows = (asked : Rows) × (rows ≡ Some asked) × SpellsRows word.now asked × AreOf g asked

-- there is a word, and it spells no rows, or some that aren't rows of such a die
abbrev pub AreNoRows : Option (Bor (List ℕ)) → Geometry → LabFault → Type 0
AreNoRows None g told = ⊥
AreNoRows (Some word) g (fault.BadNumber told) = (told.now ≡ word.now) × ((rows : Rows) → ¬ SpellsRows word.now rows)
AreNoRows (Some word) g fault.RowRange = (rows : Rows) × SpellsRows word.now rows × (¬ AreOf g rows)
AreNoRows (Some word) g _ = ⊥
