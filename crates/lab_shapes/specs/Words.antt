-- The words that say an arrangement, as `arrange --from` takes them.
use Rattle.std.specs.Prelude.{◌≢◌, ◌||◌, ℕ, Bool, if◌then◌else◌, List, [], ◌∷◌, ◌++◌, codes, Option, Some, None, is_some}
use Rattle.std.specs.Fmt.{decimal}
use Rattle.lab_arrange.specs.declared.arrangement.Arrangement.{Arrangement}
use Rattle.lab_arrange.specs.declared.arrangement.Spares.{Spares}
use Rattle.lab_arrange.specs.declared.arrangement.Spares.TheVariants.{Block, Die}
use Rattle.lab_arrange.specs.Words.{IsArrangementAt, in_order}
use Rattle.lab_shapes.specs.Tried.{IsTried}

-- a word, with a comma before it where one stands before it
abbrev pub behind : Bool → List ℕ → List ℕ
behind before word = if before then 44 ∷ word else word

-- a word, where it is told
abbrev pub flag_words : (before told : Bool) → List ℕ → List ℕ
flag_words before told word = if told then behind before word else []

-- of a header, or of a tail
abbrev pub around_words : (header tail : Option ℕ) → List ℕ
around_words (Some n) tail = codes "header=" ++ decimal n
around_words None (Some n) = codes "tail=" ++ decimal n
around_words None None = []

-- of bytes that were cut off
abbrev pub cut_words : Bool → Option ℕ → List ℕ
cut_words before None = []
cut_words before (Some n) = behind before (codes "cut=" ++ decimal n)

abbrev pub spares_words : Bool → Option Spares → List ℕ
spares_words before None = []
spares_words before (Some Block) = behind before (codes "spares=block")
spares_words before (Some Die) = behind before (codes "spares=die")

-- of the order of the bytes
abbrev pub byte_order_words : Bool → Arrangement → List ℕ
byte_order_words before a =
    let spares = before || is_some a.spares in
    let first = spares || a.spare_first in
    let swapped = first || a.swapped in
    let inverted = swapped || a.inverted in
    spares_words before a.spares ++ (flag_words spares a.spare_first (codes "spare-first") ++ (flag_words first a.swapped (codes "swapped")
    ++ (flag_words swapped a.inverted (codes "inverted") ++ flag_words inverted a.planes (codes "planes=2"))))

-- THE WORDS OF AN ARRANGEMENT
-- Law: they say it, as `arrange --from` takes them, where it is one that is tried and not in order (`WordsLaw`).
unfoldable pub arrangement_words : Arrangement → List ℕ
arrangement_words a =
    let around = is_some a.header || is_some a.tail in
    around_words a.header a.tail ++ (cut_words around a.cut ++ byte_order_words (around || is_some a.cut) a)

abbrev pub WordsLaw : Type 0
WordsLaw = (a : Arrangement) → IsTried a → a ≢ in_order → IsArrangementAt (arrangement_words a) a
