-- Numbers as the words of a command write them.
use Rattle.std.specs.Prelude.{◌≡◌, ℕ, ◌+◌, ◌-◌, ◌*◌, ◌^◌, ◌&&◌, nat_lt, nat_le, if◌then◌else◌, List, [], ◌∷◌, ◌++◌, Option, Some, None}
use Rattle.std.specs.Option.{option_and_then}
use Rattle.program_words.specs.declared.numbers.GeometryNumbers.{GeometryNumbers}

-- the number so far with one more digit, where that is a digit and the number stays below 2 ^ 32
abbrev pub next_value : ℕ → ℕ → Option ℕ
next_value n c = if nat_le 48 c && nat_le c 57 && nat_lt (n * 10 + (c - 48)) (2 ^ 32) then Some (n * 10 + (c - 48)) else None

abbrev pub number_from : ℕ → List ℕ → Option ℕ
number_from n [] = Some n
number_from n (c ∷ cs) = option_and_then (λ m. number_from m cs) (next_value n c)

-- decimal digits alone, at least one, of a number below 2 ^ 32
abbrev pub number_of : List ℕ → Option ℕ
number_of [] = None
number_of (c ∷ cs) = number_from 0 (c ∷ cs)

-- the text is a number, a comma, and the rest
abbrev pub StartsWithNumber : List ℕ → ℕ → List ℕ → Type 0
StartsWithNumber text n rest = (digits : List ℕ) × (text ≡ digits ++ (44 ∷ rest)) × (number_of digits ≡ Some n)

-- the text is these numbers, with commas between them
abbrev pub SpellsNumbers : List ℕ → List ℕ → Type 0
SpellsNumbers text [] = ⊥
SpellsNumbers text (n ∷ []) = number_of text ≡ Some n
SpellsNumbers text (n ∷ m ∷ ns) = (rest : List ℕ) × StartsWithNumber text n rest × SpellsNumbers rest (m ∷ ns)

-- five numbers with four commas between them
abbrev pub SpellsGeometry : List ℕ → GeometryNumbers → Type 0
SpellsGeometry text g = SpellsNumbers text (g.data_bytes ∷ g.spare_bytes ∷ g.pages ∷ g.blocks ∷ g.sectors ∷ [])
