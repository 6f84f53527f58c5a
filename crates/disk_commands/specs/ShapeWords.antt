-- A geometry as a word writes it.
use Rattle.std.specs.Prelude.{ℕ, List}
use Rattle.page_layout.specs.declared.geometry.Geometry.{Geometry}
use Rattle.page_layout.specs.Faults.{HasNumbers, IsFirstFault}
use Rattle.program_words.specs.declared.numbers.GeometryNumbers.{GeometryNumbers}
use Rattle.program_words.specs.Numbers.{SpellsGeometry}
use Rattle.disk_commands.specs.declared.shape_words.GeometryWordFault.{GeometryWordFault}
use Rattle.disk_commands.specs.declared.shape_words.GeometryWordFault.TheVariants.{NoNumbers, Limit}

-- the word writes the five numbers of this geometry
pub record SaysGeometry (word : List ℕ) (g : Geometry) : Type 0 where
  pub numbers : GeometryNumbers
  pub spelled : SpellsGeometry word numbers
  pub valid : HasNumbers numbers.data_bytes numbers.spare_bytes numbers.pages numbers.blocks numbers.sectors g

-- it writes no five numbers, or some that break this limit, the first that they do
abbrev pub SaysNone : List ℕ → GeometryWordFault → Type 0
SaysNone word NoNumbers = (numbers : GeometryNumbers) → ¬ SpellsGeometry word numbers
SaysNone word (Limit broken) =
    (n : GeometryNumbers) × SpellsGeometry word n × IsFirstFault n.data_bytes n.spare_bytes n.pages n.blocks n.sectors broken
