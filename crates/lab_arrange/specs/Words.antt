-- The words of an arrangement, and the arrangement that they say.
use Rattle.std.specs.Prelude.{◌≡◌, ◌≢◌, ◌⊎◌, ◌||◌, ℕ, ◌<◌, if◌then◌else◌, Bool, true, false, List, [], ◌∷◌, ◌++◌, codes, length, get_or, Option, Some, None, is_some}
use Rattle.program_words.specs.Numbers.{number_of}
use Rattle.lab_arrange.specs.declared.arrangement.Arrangement.{Arrangement}
use Rattle.lab_arrange.specs.declared.arrangement.Spares.TheVariants as spares
use Rattle.lab_arrange.specs.declared.words.Told.{Told}
use Rattle.lab_arrange.specs.declared.words.Told.TheVariants as told

-- ---- one word

-- a word without a value tells this
abbrev pub FlagSays : List ℕ → Told → Type 0
FlagSays word told.SpareFirst = word ≡ codes "spare-first"
FlagSays word told.Swapped = word ≡ codes "swapped"
FlagSays word told.Inverted = word ≡ codes "inverted"
FlagSays word _ = ⊥

-- one of a name and a value does
abbrev pub ValueSays : (name value : List ℕ) → Told → Type 0
ValueSays name value (told.Header n) = (name ≡ codes "header") × (number_of value ≡ Some n)
ValueSays name value (told.Tail n) = (name ≡ codes "tail") × (number_of value ≡ Some n)
ValueSays name value (told.Cut n) = (name ≡ codes "cut") × (number_of value ≡ Some n)
ValueSays name value (told.Spares spares.Block) = (name ≡ codes "spares") × (value ≡ codes "block")
ValueSays name value (told.Spares spares.Die) = (name ≡ codes "spares") × (value ≡ codes "die")
ValueSays name value told.Planes = (name ≡ codes "planes") × (value ≡ codes "2")
ValueSays name value _ = ⊥

-- A WORD TELLS THIS: it is that word, or its name, an equals sign and its value.
abbrev pub WordSays : List ℕ → Told → Type 0
WordSays word t = FlagSays word t ⊎ ((name : List ℕ) × (value : List ℕ) × (word ≡ name ++ (61 ∷ value)) × ValueSays name value t)

-- ---- what is told

-- nothing
abbrev pub in_order : Arrangement
in_order = record { header = None; tail = None; cut = None; spares = None; spare_first = false; swapped = false; inverted = false; planes = false }

-- an arrangement that tells this too
abbrev pub set_told : Arrangement → Told → Arrangement
set_told a (told.Header n) = record { header = Some n; tail = a.tail; cut = a.cut; spares = a.spares; spare_first = a.spare_first; swapped = a.swapped; inverted = a.inverted; planes = a.planes }
set_told a (told.Tail n) = record { header = a.header; tail = Some n; cut = a.cut; spares = a.spares; spare_first = a.spare_first; swapped = a.swapped; inverted = a.inverted; planes = a.planes }
set_told a (told.Cut n) = record { header = a.header; tail = a.tail; cut = Some n; spares = a.spares; spare_first = a.spare_first; swapped = a.swapped; inverted = a.inverted; planes = a.planes }
set_told a (told.Spares s) = record { header = a.header; tail = a.tail; cut = a.cut; spares = Some s; spare_first = a.spare_first; swapped = a.swapped; inverted = a.inverted; planes = a.planes }
set_told a told.SpareFirst = record { header = a.header; tail = a.tail; cut = a.cut; spares = a.spares; spare_first = true; swapped = a.swapped; inverted = a.inverted; planes = a.planes }
set_told a told.Swapped = record { header = a.header; tail = a.tail; cut = a.cut; spares = a.spares; spare_first = a.spare_first; swapped = true; inverted = a.inverted; planes = a.planes }
set_told a told.Inverted = record { header = a.header; tail = a.tail; cut = a.cut; spares = a.spares; spare_first = a.spare_first; swapped = a.swapped; inverted = true; planes = a.planes }
set_told a told.Planes = record { header = a.header; tail = a.tail; cut = a.cut; spares = a.spares; spare_first = a.spare_first; swapped = a.swapped; inverted = a.inverted; planes = true }

-- whether that, or its contrary, is told already
abbrev pub is_said : Arrangement → Told → Bool
is_said a (told.Header n) = is_some a.header
is_said a (told.Tail n) = is_some a.tail || is_some a.cut
is_said a (told.Cut n) = is_some a.tail || is_some a.cut
is_said a (told.Spares s) = is_some a.spares
is_said a told.SpareFirst = a.spare_first
is_said a told.Swapped = a.swapped
is_said a told.Inverted = a.inverted
is_said a told.Planes = a.planes

-- an arrangement that tells this too, where it does not yet
abbrev pub with_told : Arrangement → Told → Option Arrangement
with_told a t = if is_said a t then None else Some (set_told a t)

-- ---- all words

-- the arrangement and one word come to another arrangement
abbrev pub IsToldBy : Arrangement → List ℕ → Arrangement → Type 0
IsToldBy a word b = (t : Told) × WordSays word t × (with_told a t ≡ Some b)

-- to none: the word tells nothing, or what is told already
abbrev pub IsBadWord : Arrangement → List ℕ → Type 0
IsBadWord a word = (t : Told) → WordSays word t → with_told a t ≡ None

-- the arrangement and these words, with commas between them, do
abbrev pub TellsArrangement : Arrangement → (words : List (List ℕ)) → (text : List ℕ) → Arrangement → Type 0
TellsArrangement a [] text b = ⊥
TellsArrangement a (word ∷ []) text b = (text ≡ word) × IsToldBy a word b
TellsArrangement a (word ∷ next ∷ words) text b = (rest : List ℕ) × (c : Arrangement) × (text ≡ word ++ (44 ∷ rest)) × IsToldBy a word c × TellsArrangement c (next ∷ words) rest b

abbrev pub IsToldFrom : Arrangement → List ℕ → Arrangement → Type 0
IsToldFrom a text b = (words : List (List ℕ)) × TellsArrangement a words text b

-- no comma stands in the text
abbrev pub LacksComma : List ℕ → Type 0
LacksComma text = (i : ℕ) → i < length text → get_or text i 0 ≢ 44

-- these words come to an arrangement, and the next one, up to a comma or the end, to none
abbrev pub StopsAtWord : Arrangement → (words : List (List ℕ)) → (text bad : List ℕ) → Type 0
StopsAtWord a [] text bad = LacksComma bad × ((text ≡ bad) ⊎ ((rest : List ℕ) × (text ≡ bad ++ (44 ∷ rest)))) × IsBadWord a bad
StopsAtWord a (word ∷ words) text bad = (rest : List ℕ) × (c : Arrangement) × (text ≡ word ++ (44 ∷ rest)) × IsToldBy a word c × StopsAtWord c words rest bad

abbrev pub IsBadFrom : Arrangement → (text bad : List ℕ) → Type 0
IsBadFrom a text bad = (words : List (List ℕ)) × StopsAtWord a words text bad

-- THE TEXT SAYS THIS ARRANGEMENT
abbrev pub IsArrangementAt : List ℕ → Arrangement → Type 0
IsArrangementAt text a = IsToldFrom in_order text a

-- THE TEXT SAYS NONE, and this is the first word that is at fault.
abbrev pub IsBadAt : (text bad : List ℕ) → Type 0
IsBadAt text bad = IsBadFrom in_order text bad
