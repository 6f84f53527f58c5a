-- A size as a word writes it: digits, a point and digits behind it or none, and a suffix that names the unit.
use Rattle.std.specs.Prelude.{◌≡◌, ℕ, ◌+◌, ◌-◌, ◌*◌, ◌^◌, ◌≤◌, ◌<◌, ◌&&◌, ◌||◌, suc, Bool, nat_lt, nat_le, if◌then◌else◌, ◌==◌, List, [], ◌∷◌, ◌++◌, length, take, drop, codes, bytes_eq, Option, Some, None}
use Rattle.std.specs.Option.{option_and_then}

-- ---- the parts of a word

abbrev pub is_digit : ℕ → Bool
is_digit c = nat_le 48 c && nat_le c 57

-- the number so far with one more digit, where that is a digit and the number stays below 2 ^ 64
abbrev pub next_count : ℕ → ℕ → Option ℕ
next_count n c = if is_digit c && nat_lt (n * 10 + (c - 48)) (2 ^ 64) then Some (n * 10 + (c - 48)) else None

abbrev pub count_from : ℕ → List ℕ → Option ℕ
count_from n [] = Some n
count_from n (c ∷ cs) = option_and_then (λ m. count_from m cs) (next_count n c)

-- digits behind a point; with none of them there is no point
abbrev pub behind_point : List ℕ → List ℕ
behind_point [] = []
behind_point (c ∷ cs) = 46 ∷ (c ∷ cs)

-- how many digits a text begins with
abbrev pub digits_before : List ℕ → ℕ
digits_before [] = 0
digits_before (c ∷ cs) = if is_digit c then suc (digits_before cs) else 0

-- THE DIGITS that a word begins with, and what stands behind them
abbrev pub whole_of : List ℕ → List ℕ
whole_of word = take (digits_before word) word

abbrev pub rest_of : List ℕ → List ℕ
rest_of word = drop (digits_before word) word

-- of the rest the digits behind a point
abbrev pub digits_behind_point : List ℕ → List ℕ
digits_behind_point [] = []
digits_behind_point (c ∷ cs) = if c == 46 then whole_of cs else []

-- and what stands behind them; a point with no digit is one more letter
abbrev pub suffix_of : List ℕ → List ℕ
suffix_of [] = []
suffix_of (c ∷ cs) = if c == 46 && nat_lt 0 (digits_before cs) then rest_of cs else c ∷ cs

-- ---- the unit

-- the unit of a letter, K, M, G or T in either case, by powers of 1024
abbrev pub binary_of : ℕ → Option ℕ
binary_of c =
    if c == 75 || c == 107 then Some (2 ^ 10) else (if c == 77 || c == 109 then Some (2 ^ 20) else (
    if c == 71 || c == 103 then Some (2 ^ 30) else (if c == 84 || c == 116 then Some (2 ^ 40) else None)))

-- and by powers of 1000
abbrev pub decimal_of : ℕ → Option ℕ
decimal_of c =
    if c == 75 || c == 107 then Some (10 ^ 3) else (if c == 77 || c == 109 then Some (10 ^ 6) else (
    if c == 71 || c == 103 then Some (10 ^ 9) else (if c == 84 || c == 116 then Some (10 ^ 12) else None)))

-- nothing or iB stands behind the letter of a unit of 1024s, and B behind one of 1000s
abbrev pub unit_by : List ℕ → ℕ → Option ℕ
unit_by behind c =
    if bytes_eq behind [] || bytes_eq behind (codes "iB") then binary_of c else (
    if bytes_eq behind (codes "B") then decimal_of c else None)

-- THE BYTES OF THE UNIT that a suffix names; without one they are bytes
abbrev pub unit_of : List ℕ → Option ℕ
unit_of [] = Some 1
unit_of (c ∷ behind) = unit_by behind c

-- ---- a size

-- A WORD SAYS SO MANY UNITS: a number of digits, of which the last ones may stand behind a point
pub record SaysUnits (word : List ℕ) (digits places unit : ℕ) : Type 0 where
  pub whole : List ℕ
  pub part : List ℕ
  pub suffix : List ℕ
  pub split : word ≡ whole ++ (behind_point part ++ suffix)
  pub some_whole : 1 ≤ length whole
  pub places_are : places ≡ length part
  pub few : places ≤ 18
  pub digits_are : count_from 0 (whole ++ part) ≡ Some digits
  pub unit_is : unit_of suffix ≡ Some unit

-- the word says that many bytes, from 1 to 2 ^ 63: the number, times the unit
pub record SpellsSize (word : List ℕ) (bytes : ℕ) : Type 0 where
  pub digits : ℕ
  pub places : ℕ
  pub unit : ℕ
  pub says : SaysUnits word digits places unit
  pub product : bytes * 10 ^ places ≡ digits * unit
  pub least : 1 ≤ bytes
  pub most : bytes ≤ 2 ^ 63

-- it says a part of a byte
pub record SpellsPart (word : List ℕ) : Type 0 where
  pub digits : ℕ
  pub places : ℕ
  pub unit : ℕ
  pub says : SaysUnits word digits places unit
  pub no_bytes : (bytes : ℕ) → bytes * 10 ^ places ≡ digits * unit → ⊥

-- ---- laws

-- DIGITS AND A SUFFIX SAY that number of units; and behind a point the digits say tenths, hundredths and so on of them
abbrev pub SizeLaw : Type 0
SizeLaw = (whole part suffix : List ℕ) (digits unit bytes : ℕ) → 1 ≤ length whole → length part ≤ 18 → count_from 0 (whole ++ part) ≡ Some digits → unit_of suffix ≡ Some unit
    → bytes * 10 ^ length part ≡ digits * unit → 1 ≤ bytes → bytes ≤ 2 ^ 63 → SpellsSize (whole ++ (behind_point part ++ suffix)) bytes

-- A WORD SAYS ONE SIZE at most, and none where it says a part of a byte
abbrev pub OneSizeLaw : Type 0
OneSizeLaw = (word : List ℕ) (a b : ℕ) → SpellsSize word a → SpellsSize word b → a ≡ b

abbrev pub PartOfByteLaw : Type 0
PartOfByteLaw = (word : List ℕ) (bytes : ℕ) → SpellsPart word → SpellsSize word bytes → ⊥

-- each unit is so many times the one before
pub record AreUnits (thousand : ℕ) (k m g t : List ℕ) : Type 0 where
  pub kilo : unit_of k ≡ Some thousand
  pub mega : unit_of m ≡ Some (thousand * thousand)
  pub giga : unit_of g ≡ Some (thousand * (thousand * thousand))
  pub tera : unit_of t ≡ Some (thousand * (thousand * (thousand * thousand)))

-- THE UNITS: of 1024 in capital or small letters, alone or with iB, and of 1000 with B
pub record UnitLaw : Type 0 where
  pub bytes : unit_of [] ≡ Some 1
  pub capital : AreUnits 1024 (codes "K") (codes "M") (codes "G") (codes "T")
  pub small : AreUnits 1024 (codes "k") (codes "m") (codes "g") (codes "t")
  pub binary : AreUnits 1024 (codes "KiB") (codes "MiB") (codes "GiB") (codes "TiB")
  pub decimal : AreUnits 1000 (codes "KB") (codes "MB") (codes "GB") (codes "TB")
