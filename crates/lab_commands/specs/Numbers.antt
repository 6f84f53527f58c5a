-- What the words of a command say of a sequence and of a sector.
use Rattle.std.specs.Prelude.{◌≡◌, ℕ, ◌+◌, ◌-◌, ◌*◌, ◌^◌, ◌<◌, ◌≤◌, ◌&&◌, nat_lt, nat_le, if◌then◌else◌, List, [], ◌∷◌, Option, Some, None}
use Rattle.std.specs.Option.{option_and_then}
use Rattle.std.specs.Borrow.{Bor}
use Rattle.page_layout.specs.declared.geometry.Geometry.{Geometry}
use Rattle.program_words.specs.Numbers.{number_of}
use Rattle.lab_commands.specs.declared.text.LabFault.{LabFault}
use Rattle.lab_commands.specs.declared.text.LabFault.TheVariants as fault

-- ---- a sequence

-- the number so far with one more digit, where that is a digit and the number stays below 2 ^ 64
abbrev pub sequence_with_digit : ℕ → ℕ → Option ℕ
sequence_with_digit n c = if nat_le 48 c && nat_le c 57 && nat_lt (n * 10 + (c - 48)) (2 ^ 64) then Some (n * 10 + (c - 48)) else None

abbrev pub sequence_from : ℕ → List ℕ → Option ℕ
sequence_from n [] = Some n
sequence_from n (c ∷ cs) = option_and_then (λ m. sequence_from m cs) (sequence_with_digit n c)

-- decimal digits alone, at least one, of a number below 2 ^ 64
abbrev pub sequence_of_word : List ℕ → Option ℕ
sequence_of_word [] = None
sequence_of_word (c ∷ cs) = sequence_from 0 (c ∷ cs)

-- the word says this sequence; without a word none is said
abbrev pub IsLastAt : Option (Bor (List ℕ)) → Option ℕ → Type 0
IsLastAt None last = last ≡ None
IsLastAt (Some word) last = (n : ℕ) × (last ≡ Some n) × (sequence_of_word word.now ≡ Some n)

-- there is a word, and it says no sequence
abbrev pub IsNoLast : Option (Bor (List ℕ)) → LabFault → Type 0
IsNoLast None told = ⊥
IsNoLast (Some word) (fault.BadNumber told) = (told.now ≡ word.now) × (sequence_of_word word.now ≡ None)
IsNoLast (Some word) _ = ⊥

-- ---- a sector

-- the word says this sector, of such a die
pub record IsSectorAt (word : List ℕ) (g : Geometry) (n : ℕ) : Type 0 where
  pub number : number_of word ≡ Some n
  pub within : n < g.sectors

-- it says no number, or that of a sector that such a die has not
abbrev pub IsNoSector : List ℕ → Geometry → LabFault → Type 0
IsNoSector word g (fault.BadNumber told) = (told.now ≡ word) × (number_of word ≡ None)
IsNoSector word g fault.SectorRange = (n : ℕ) × (number_of word ≡ Some n) × (g.sectors ≤ n)
IsNoSector word g _ = ⊥
