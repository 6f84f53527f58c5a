-- The words of an arrangement say it.
use Rattle.std.proofs.Common.{◌≡◌, ◌≢◌, ◌⊎◌, ℕ, zero, suc, ◌+◌, ◌-◌, ◌*◌, ◌/◌, ◌%◌, ◌^◌, ◌<◌, ◌≤◌, length, Bool, true, false, List, [], ◌∷◌, ◌++◌, get_or, Option, Some, None, inl, inr, append_assoc, append-nil, refl, sym, ap, ◌∙◌, subst, arith}
use Rattle.std.specs.Prelude.{◌||◌, codes, is_some, nat_le, nat_lt}
use Rattle.std.specs.Option.{option_and_then}
use Rattle.std.specs.List.{Contains}
use Rattle.std.specs.Fmt.{decimal}
use Rattle.std.proofs.lemmas.Bool.{cases_lt, le-leb, lt-ltb}
use Rattle.std.proofs.lemmas.Fmt.{decimal_digit, decimal_nonempty, decimal_step}
use Rattle.std.proofs.lemmas.Option.{none-some}
use Rattle.std.proofs.lemmas.List.{get_or_default}
use Rattle.program_words.specs.Numbers.{next_value, number_from, number_of}
use Rattle.lab_arrange.specs.declared.arrangement.Arrangement.{Arrangement}
use Rattle.lab_arrange.specs.declared.arrangement.Spares.{Spares}
use Rattle.lab_arrange.specs.declared.arrangement.Spares.TheVariants.{Block, Die}
use Rattle.lab_arrange.specs.declared.words.Told.TheVariants as told
use Rattle.lab_arrange.specs.Words.{IsArrangementAt, IsToldBy, IsToldFrom, TellsArrangement, in_order}
use Rattle.lab_shapes.specs.Tried.{IsAround, IsUncut, around_sizes, cut_by}
use Rattle.lab_shapes.specs.Words.{WordsLaw, around_words, arrangement_words, behind, cut_words, flag_words, byte_order_words, spares_words}

-- ---- one word more

tells_more : (a b c : Arrangement) (ws : List (List ℕ)) (text word : List ℕ) → TellsArrangement a ws text b → IsToldBy b word c → TellsArrangement a (ws ++ word ∷ []) (text ++ 44 ∷ word) c
tells_more a b c [] text word h k = absurd h
tells_more a b c (w ∷ []) text word (e, t) k = (word, b, ap (λ x. x ++ 44 ∷ word) e, t, (refl, k))
tells_more a b c (w ∷ n ∷ ws) text word (rest, d, e, t, h) k = (rest ++ 44 ∷ word, d, ap (λ x. x ++ 44 ∷ word) e ∙ append_assoc w (44 ∷ rest) (44 ∷ word), t, tells_more d b c (n ∷ ws) rest word h k)

-- some words say this, or there are none and it is in order
abbrev Built : Bool → List ℕ → Arrangement → Type 0
Built false text a = (text ≡ []) × (a ≡ in_order)
Built true text a = IsToldFrom in_order text a

built_more : (before : Bool) (text word : List ℕ) (a b : Arrangement) → Built before text a → IsToldBy a word b → IsToldFrom in_order (text ++ behind before word) b
built_more false text word a b (e, s) k = (word ∷ [], (ap (λ x. x ++ word) e, subst (λ z. IsToldBy z word b) s k))
built_more true text word a b (ws, h) k = (ws ++ word ∷ [], tells_more in_order a b ws text word h k)

built_if : (before b : Bool) (text word : List ℕ) (a c : Arrangement) → Built before text a → (b ≡ true → IsToldBy a word c) → (b ≡ false → a ≡ c) → Built (before || b) (text ++ flag_words before b word) c
built_if false false text word a c (e, s) told_so not_so = (ap (λ x. x ++ []) e, sym (not_so refl) ∙ s)
built_if true false text word a c (ws, h) told_so not_so = (ws, subst (λ x. TellsArrangement in_order ws x c) (sym (append-nil text)) (subst (TellsArrangement in_order ws text) (not_so refl) h))
built_if false true text word a c h told_so not_so = built_more false text word a c h (told_so refl)
built_if true true text word a c h told_so not_so = built_more true text word a c h (told_so refl)

-- ---- any number in decimal

from_last : (n : ℕ) (xs : List ℕ) (c m : ℕ) → number_from n xs ≡ Some m → number_from n (xs ++ c ∷ []) ≡ option_and_then (λ k. Some k) (next_value m c)
from_last n [] c m e = ap (λ o. option_and_then (λ k. option_and_then (λ i. Some i) (next_value k c)) o) e
from_last n (x ∷ xs) c m e = by (next_value n x) e (λ k. from_last k xs c m)
  where
    by : (o : Option ℕ) → option_and_then (λ k. number_from k xs) o ≡ Some m → ((k : ℕ) → number_from k xs ≡ Some m → number_from k (xs ++ c ∷ []) ≡ option_and_then (λ k. Some k) (next_value m c))
        → option_and_then (λ k. number_from k (xs ++ c ∷ [])) o ≡ option_and_then (λ k. Some k) (next_value m c)
    by None h rest = absurd (none-some m h)
    by (Some k) h rest = rest k h

-- a digit more
next_digit : (m d : ℕ) → d < 10 → m * 10 + d < 2 ^ 32 → next_value m (48 + d) ≡ Some (m * 10 + d)
next_digit m d l few =
    let digit : 48 + d - 48 ≡ d = omega arith in
    let least : nat_le 48 (48 + d) ≡ true = le-leb 48 (48 + d) (omega arith) in
    let most : nat_le (48 + d) 57 ≡ true = le-leb (48 + d) 57 (omega arith) in
    let below : nat_lt (m * 10 + d) (2 ^ 32) ≡ true = lt-ltb (m * 10 + d) (2 ^ 32) few in
    rw (digit, least, most, below) refl

one_digit : (n : ℕ) → n < 10 → number_from 0 (decimal n) ≡ Some n
one_digit n l = ap (number_from 0) (decimal_digit n l) ∙ (ap (λ o. option_and_then (λ k. Some k) o) (next_digit 0 n l (omega (arith, l))) ∙ (let same : 0 * 10 + n ≡ n = omega arith in ap Some same))

more_digits : (n : ℕ) → 10 ≤ n → n < 2 ^ 32 → number_from 0 (decimal (n / 10)) ≡ Some (n / 10) → number_from 0 (decimal n) ≡ Some n
more_digits n l small front =
    let whole : n / 10 * 10 + n % 10 ≡ n = omega arith in
    let last : n % 10 < 10 = omega arith in
    ap (number_from 0) (decimal_step n l (omega (arith, small)))
    ∙ (from_last 0 (decimal (n / 10)) (48 + n % 10) (n / 10) front
    ∙ (ap (λ o. option_and_then (λ k. Some k) o) (next_digit (n / 10) (n % 10) last (omega (arith, whole, small))) ∙ ap Some whole))

-- by its digits, of which there are at most so many
spelled_from : (k n : ℕ) → n < 10 ^ suc k → n < 2 ^ 32 → number_from 0 (decimal n) ≡ Some n
spelled_from zero n few small = one_digit n (omega (arith, few))
spelled_from (suc j) n few small = by (cases_lt n 10) (spelled_from j (n / 10) (omega (arith, few)) (omega (arith, small)))
  where
    by : (n < 10) ⊎ (10 ≤ n) → number_from 0 (decimal (n / 10)) ≡ Some (n / 10) → number_from 0 (decimal n) ≡ Some n
    by (inl l) front = one_digit n l
    by (inr l) front = more_digits n l small front

any_number : (n : ℕ) → n < 2 ^ 32 → number_of (decimal n) ≡ Some n
any_number n small = by (decimal n) (decimal_nonempty n (omega (arith, small))) (spelled_from 9 n (omega (arith, small)) small)
  where
    by : (xs : List ℕ) → 0 < length xs → number_from 0 xs ≡ Some n → number_of xs ≡ Some n
    by [] l e = absurd (omega (arith, l))
    by (x ∷ xs) l e = e

-- those that are tried are small
around_small : (n : ℕ) → Contains around_sizes n → n < 2 ^ 32
around_small n (k, l, e) = subst (λ m. m < 2 ^ 32) (get_or_default around_sizes k 0 n l ∙ e) (size_small k l)
  where
    size_small : (i : ℕ) → i < 13 → get_or around_sizes i 0 < 2 ^ 32
    size_small zero h = omega arith
    size_small (suc zero) h = omega arith
    size_small (suc (suc zero)) h = omega arith
    size_small (suc (suc (suc zero))) h = omega arith
    size_small (suc (suc (suc (suc zero)))) h = omega arith
    size_small (suc (suc (suc (suc (suc zero))))) h = omega arith
    size_small (suc (suc (suc (suc (suc (suc zero)))))) h = omega arith
    size_small (suc (suc (suc (suc (suc (suc (suc zero))))))) h = omega arith
    size_small (suc (suc (suc (suc (suc (suc (suc (suc zero)))))))) h = omega arith
    size_small (suc (suc (suc (suc (suc (suc (suc (suc (suc zero))))))))) h = omega arith
    size_small (suc (suc (suc (suc (suc (suc (suc (suc (suc (suc zero)))))))))) h = omega arith
    size_small (suc (suc (suc (suc (suc (suc (suc (suc (suc (suc (suc zero))))))))))) h = omega arith
    size_small (suc (suc (suc (suc (suc (suc (suc (suc (suc (suc (suc (suc zero)))))))))))) h = omega arith
    size_small (suc (suc (suc (suc (suc (suc (suc (suc (suc (suc (suc (suc (suc i))))))))))))) h = absurd (omega arith)

number_is : (n : ℕ) → Contains around_sizes n → number_of (decimal n) ≡ Some n
number_is n h = any_number n (around_small n h)

-- ---- the parts of an arrangement

abbrev made : Option ℕ → Option ℕ → Option Spares → (first swapped inverted planes : Bool) → Arrangement
made header tail spares first swapped inverted planes = record { header = header; tail = tail; cut = None; spares = spares; spare_first = first; swapped = swapped; inverted = inverted; planes = planes }

built_around : (header tail : Option ℕ) → IsAround header tail → Built (is_some header || is_some tail) (around_words header tail) (made header tail None false false false false)
built_around None None h = (refl, refl)
built_around (Some n) None h = ((codes "header=" ++ decimal n) ∷ [], (refl, (told.Header n, inr (codes "header", decimal n, refl, (refl, number_is n h)), refl)))
built_around None (Some n) h = ((codes "tail=" ++ decimal n) ∷ [], (refl, (told.Tail n, inr (codes "tail", decimal n, refl, (refl, number_is n h)), refl)))
built_around (Some n) (Some m) h = absurd h

built_spares : (before : Bool) (text : List ℕ) (h t : Option ℕ) (s : Option Spares) → Built before text (made h t None false false false false) → Built (before || is_some s) (text ++ spares_words before s) (made h t s false false false false)
built_spares before text h t None b = built_if before false text [] _ _ b (λ e. absurd (let clash : false ≡ true = e in cc)) (λ e. refl)
built_spares before text h t (Some Block) b = built_if before true text (codes "spares=block") _ _ b (λ e. (told.Spares Block, inr (codes "spares", codes "block", refl, (refl, refl)), refl)) (λ e. absurd (let clash : true ≡ false = e in cc))
built_spares before text h t (Some Die) b = built_if before true text (codes "spares=die") _ _ b (λ e. (told.Spares Die, inr (codes "spares", codes "die", refl, (refl, refl)), refl)) (λ e. absurd (let clash : true ≡ false = e in cc))

built_first : (before : Bool) (text : List ℕ) (h t : Option ℕ) (s : Option Spares) (f : Bool) → Built before text (made h t s false false false false) → Built (before || f) (text ++ flag_words before f (codes "spare-first")) (made h t s f false false false)
built_first before text h t s f b = built_if before f text (codes "spare-first") _ _ b (λ e. (told.SpareFirst, inl refl, ap (λ x. Some (made h t s x false false false)) (sym e))) (λ e. ap (λ x. made h t s x false false false) (sym e))

built_swapped : (before : Bool) (text : List ℕ) (h t : Option ℕ) (s : Option Spares) (f w : Bool) → Built before text (made h t s f false false false) → Built (before || w) (text ++ flag_words before w (codes "swapped")) (made h t s f w false false)
built_swapped before text h t s f w b = built_if before w text (codes "swapped") _ _ b (λ e. (told.Swapped, inl refl, ap (λ x. Some (made h t s f x false false)) (sym e))) (λ e. ap (λ x. made h t s f x false false) (sym e))

built_inverted : (before : Bool) (text : List ℕ) (h t : Option ℕ) (s : Option Spares) (f w i : Bool) → Built before text (made h t s f w false false) → Built (before || i) (text ++ flag_words before i (codes "inverted")) (made h t s f w i false)
built_inverted before text h t s f w i b = built_if before i text (codes "inverted") _ _ b (λ e. (told.Inverted, inl refl, ap (λ x. Some (made h t s f w x false)) (sym e))) (λ e. ap (λ x. made h t s f w x false) (sym e))

built_planes : (before : Bool) (text : List ℕ) (h t : Option ℕ) (s : Option Spares) (f w i p : Bool) → Built before text (made h t s f w i false) → Built (before || p) (text ++ flag_words before p (codes "planes=2")) (made h t s f w i p)
built_planes before text h t s f w i p b = built_if before p text (codes "planes=2") _ _ b (λ e. (told.Planes, inr (codes "planes", codes "2", refl, (refl, refl)), ap (λ x. Some (made h t s f w i x)) (sym e))) (λ e. ap (λ x. made h t s f w i x) (sym e))

-- ---- all words

said : (before : Bool) (text : List ℕ) (a : Arrangement) → Built before text a → a ≢ in_order → IsArrangementAt text a
said false text a b other = absurd (other b.1)
said true text a b other = b

together : (r s f w i p : List ℕ) → ((((r ++ s) ++ f) ++ w) ++ i) ++ p ≡ r ++ (s ++ (f ++ (w ++ (i ++ p))))
together r s f w i p = simp append_assoc

-- with nothing cut off
uncut_words : (a : Arrangement) → IsUncut a → a ≢ in_order → IsArrangementAt (around_words a.header a.tail ++ byte_order_words (is_some a.header || is_some a.tail) a) a
uncut_words a tried other =
    let before = is_some a.header || is_some a.tail in
    let spares = before || is_some a.spares in
    let first = spares || a.spare_first in
    let swapped = first || a.swapped in
    let inverted = swapped || a.inverted in
    let planes = inverted || a.planes in
    let words : List ℕ = around_words a.header a.tail ++ byte_order_words before a in
    let built = built_planes inverted _ a.header a.tail a.spares a.spare_first a.swapped a.inverted a.planes
    (built_inverted swapped _ a.header a.tail a.spares a.spare_first a.swapped a.inverted
    (built_swapped first _ a.header a.tail a.spares a.spare_first a.swapped
    (built_first spares _ a.header a.tail a.spares a.spare_first
    (built_spares before _ a.header a.tail a.spares (built_around a.header a.tail tried.around))))) in
    let is : made a.header a.tail a.spares a.spare_first a.swapped a.inverted a.planes ≡ a = same_whole a tried.whole in
    said planes words a
    (subst (Built planes words) is
    (subst (λ t. Built planes t (made a.header a.tail a.spares a.spare_first a.swapped a.inverted a.planes))
    (together (around_words a.header a.tail) (spares_words before a.spares) (flag_words spares a.spare_first (codes "spare-first"))
    (flag_words first a.swapped (codes "swapped")) (flag_words swapped a.inverted (codes "inverted"))
    (flag_words inverted a.planes (codes "planes=2"))) built)) other
  where
    same_whole : (b : Arrangement) → b.cut ≡ None → made b.header b.tail b.spares b.spare_first b.swapped b.inverted b.planes ≡ b
    same_whole b e = ap (λ c. record { header = b.header; tail = b.tail; cut = c; spares = b.spares; spare_first = b.spare_first; swapped = b.swapped; inverted = b.inverted; planes = b.planes }) (sym e)

-- then no word of a cut stands among them
without_cut : (a : Arrangement) → a.cut ≡ None → around_words a.header a.tail ++ byte_order_words (is_some a.header || is_some a.tail) a ≡ arrangement_words a
unfolding arrangement_words
without_cut a none =
    let around = is_some a.header || is_some a.tail in
    ap (λ b. around_words a.header a.tail ++ byte_order_words b a) (sym (or_false around)) ∙ ap (λ c. around_words a.header a.tail ++ (cut_words around c ++ byte_order_words (around || is_some c) a)) (sym none)
  where
    or_false : (b : Bool) → (b || false) ≡ b
    or_false true = refl
    or_false false = refl

-- of bytes that were cut off
cut_alone : (n : ℕ) → n < 1114112 → IsArrangementAt (arrangement_words (cut_by n)) (cut_by n)
unfolding arrangement_words
cut_alone n l =
    let word : List ℕ = codes "cut=" ++ decimal n in
    (word ∷ [], (append-nil word, (told.Cut n, inr (codes "cut", decimal n, refl, (refl, any_number n (omega (arith, l)))), refl)))

pub words_law : WordsLaw
words_law a (inl tried) other = subst (λ t. IsArrangementAt t a) (without_cut a tried.whole) (uncut_words a tried other)
words_law a (inr (n, some, few, is)) other = subst (λ b. IsArrangementAt (arrangement_words b) b) (sym is) (cut_alone n few)
