-- What is printed of a name, from its first byte on.
use Rattle.std.proofs.Common.{◌≡◌, ◌≢◌, inl, inr, ℕ, zero, suc, ◌+◌, ◌/◌, ◌%◌, ◌<◌, ◌≤◌, All, Bool, true, false, List, [], ◌∷◌, ◌++◌, length, get_or, refl, ap, sym, subst, ◌∙◌, append_assoc, append-nil, arith, cond}
use Rattle.std.specs.Prelude.{◌==◌, ◌&&◌, ◌||◌, nat_le}
use Rattle.std.specs.Char.{digit_char, digit_value}
use Rattle.std.specs.Int.{is_in_range}
use Rattle.std.proofs.lemmas.Bool.{cases_lt, lt-ltb, le-ltb, lt-leb, ne_eqb, true≢false}
use Rattle.std.proofs.lemmas.Str.{digit_value-digit_char}
use Rattle.lab_commands.specs.Names.{is_control, is_control_pair, is_hidden, hidden, shown_name, shown_at, shown_below, HasNoControls, QuietNameLaw, ApartLaw}

-- ---- from the first byte on

-- a byte as it is printed where it is hidden or not
abbrev code : Bool → ℕ → List ℕ
code h byte = cond h (hidden byte) (byte ∷ [])

-- what is printed of these bytes, before which this one stands
shown_after : ℕ → List ℕ → List ℕ
shown_after before [] = []
shown_after before (x ∷ xs) = code (is_hidden before x (get_or xs 0 0)) x ++ shown_after x xs

-- these are the bytes of a name from a place on
record AreFrom (name : List ℕ) (n : ℕ) (rest : List ℕ) : Type 0 where
  size : length name ≡ n + length rest
  same : (i : ℕ) → get_or name (n + i) 0 ≡ get_or rest i 0

from_place : (name : List ℕ) (n : ℕ) (rest : List ℕ) → AreFrom name n rest → shown_below name n ++ shown_after (get_or (0 ∷ name) n 0) rest ≡ shown_below name (length name)
unfolding shown_below shown_after
from_place name n [] h =
    let all : n ≡ length name = (let size = h.size in omega arith) in
    append-nil (shown_below name n) ∙ ap (shown_below name) all
from_place name n (x ∷ xs) h =
    let here : get_or name n 0 ≡ x = (let zero_more : n + 0 ≡ n = omega arith in ap (λ k. get_or name k 0) (sym zero_more) ∙ h.same 0) in
    let next : get_or name (suc n) 0 ≡ get_or xs 0 0 = (let one_more : n + 1 ≡ suc n = omega arith in ap (λ k. get_or name k 0) (sym one_more) ∙ h.same 1) in
    let at : shown_at name n ≡ code (is_hidden (get_or (0 ∷ name) n 0) x (get_or xs 0 0)) x = rw (here, next) refl in
    let rest : AreFrom name (suc n) xs = record {
      size = (let size = h.size in omega arith);
      same = λ i. (let moved : suc n + i ≡ n + suc i = omega arith in ap (λ k. get_or name k 0) moved ∙ h.same (suc i));
    } in
    ap (λ t. shown_below name n ++ (t ++ shown_after x xs)) (sym at)
    ∙ (sym (append_assoc (shown_below name n) (shown_at name n) (shown_after x xs))
    ∙ (ap (λ b. (shown_below name n ++ shown_at name n) ++ shown_after b xs) (sym here) ∙ from_place name (suc n) xs rest))

shown_is : (name : List ℕ) → shown_after 0 name ≡ shown_name name
unfolding shown_below
shown_is name = from_place name 0 name (record {
  size = omega arith;
  same = λ i. (let all : 0 + i ≡ i = omega arith in ap (λ k. get_or name k 0) all);
})

-- ---- a byte that is not hidden

or_left : (a b : Bool) → (a || b) ≡ false → a ≡ false
or_left true b e = absurd (true≢false e)
or_left false b e = refl

or_right : (a b : Bool) → (a || b) ≡ false → b ≡ false
or_right true b e = absurd (true≢false e)
or_right false b e = e

-- it is no control character and no backslash, and makes none with the byte behind it
record IsOpen (byte behind : ℕ) : Type 0 where
  quiet : is_control byte ≡ false
  other : byte ≢ 92
  alone : is_control_pair byte behind ≡ false

open_of : (before byte behind : ℕ) → is_hidden before byte behind ≡ false → IsOpen byte behind
open_of before byte behind e =
    let first = or_left (is_control byte || (byte == 92)) (is_control_pair byte behind || is_control_pair before byte) e in
    record {
      quiet = or_left (is_control byte) (byte == 92) first;
      other = λ is. absurd (let same : (byte == 92) ≡ true = ap (λ b. b == 92) is in true≢false (sym same ∙ or_right (is_control byte) (byte == 92) first));
      alone = or_left (is_control_pair byte behind) (is_control_pair before byte) (or_right (is_control byte || (byte == 92)) (is_control_pair byte behind || is_control_pair before byte) e);
    }

-- ---- names that are printed alike

digit_same : (a b : ℕ) → a < 16 → b < 16 → digit_char a ≡ digit_char b → a ≡ b
digit_same a b l m e = sym (digit_value-digit_char a (omega arith)) ∙ (ap digit_value e ∙ digit_value-digit_char b (omega arith))

-- the first byte and the rest are the same
record AreSame (x y : ℕ) (r s : List ℕ) : Type 0 where
  first : x ≡ y
  rest : r ≡ s

codes_same : (h k : Bool) (x y : ℕ) (r s : List ℕ) → x < 256 → y < 256 → (h ≡ false → x ≢ 92) → (k ≡ false → y ≢ 92) → code h x ++ r ≡ code k y ++ s → AreSame x y r s
codes_same true true x y r s l m p q e =
    let high : digit_char (x / 16) ≡ digit_char (y / 16) = ap (λ (xs : List ℕ). get_or xs 2 0) e in
    let low : digit_char (x % 16) ≡ digit_char (y % 16) = ap (λ (xs : List ℕ). get_or xs 3 0) e in
    let a = digit_same (x / 16) (y / 16) (omega arith) (omega arith) high in
    let b = digit_same (x % 16) (y % 16) (omega arith) (omega arith) low in
    record { first = omega arith; rest = tail_same _ _ (tail_same _ _ (tail_same _ _ (tail_same _ _ e))) }
  where
    tail_of : List ℕ → List ℕ
    tail_of [] = []
    tail_of (z ∷ zs) = zs

    tail_same : (xs ys : List ℕ) → xs ≡ ys → tail_of xs ≡ tail_of ys
    tail_same xs ys e = ap tail_of e
codes_same true false x y r s l m p q e = absurd (q refl (sym (ap (λ (xs : List ℕ). get_or xs 0 0) e)))
codes_same false true x y r s l m p q e = absurd (p refl (ap (λ (xs : List ℕ). get_or xs 0 0) e))
codes_same false false x y r s l m p q e = record { first = ap (λ (xs : List ℕ). get_or xs 0 0) e; rest = (let both : x ∷ r ≡ y ∷ s = e in cc) }

some_code : (h : Bool) (x : ℕ) (r : List ℕ) → [] ≢ code h x ++ r
some_code true x r e = cc
some_code false x r e = cc

rest_bytes : (x : ℕ) (xs : List ℕ) → All (λ byte. byte < 256) (x ∷ xs) → All (λ byte. byte < 256) xs
rest_bytes x xs h i d l = h (suc i) d (omega arith)

same_after : (b c : ℕ) (xs ys : List ℕ) → All (λ byte. byte < 256) xs → All (λ byte. byte < 256) ys → shown_after b xs ≡ shown_after c ys → xs ≡ ys
unfolding shown_after
same_after b c [] [] p q e = refl
same_after b c [] (y ∷ ys) p q e = absurd (some_code (is_hidden c y (get_or ys 0 0)) y (shown_after y ys) e)
same_after b c (x ∷ xs) [] p q e = absurd (some_code (is_hidden b x (get_or xs 0 0)) x (shown_after x xs) (sym e))
same_after b c (x ∷ xs) (y ∷ ys) p q e =
    let first_small : x < 256 = p 0 0 (omega arith) in
    let second_small : y < 256 = q 0 0 (omega arith) in
    let same = codes_same (is_hidden b x (get_or xs 0 0)) (is_hidden c y (get_or ys 0 0)) x y (shown_after x xs) (shown_after y ys) first_small second_small
    (λ o. (open_of b x (get_or xs 0 0) o).other) (λ o. (open_of c y (get_or ys 0 0) o).other) e in
    let others = same_after x y xs ys (rest_bytes x xs p) (rest_bytes y ys q) same.rest in
    ap (λ z. z ∷ xs) same.first ∙ ap (λ zs. y ∷ zs) others

pub apart_law : ApartLaw
apart_law first second p q e = same_after 0 0 first second p q (shown_is first ∙ (e ∙ sym (shown_is second)))

-- ---- nothing that a terminal obeys

-- a byte of a digit, or of a backslash and an x
record IsMark (byte : ℕ) : Type 0 where
  least : 32 ≤ byte
  most : byte < 127

mark_quiet : (byte : ℕ) → IsMark byte → is_control byte ≡ false
mark_quiet byte m =
    let least = m.least in
    let most = m.most in
    let range : is_in_range 0 31 byte ≡ false = ap (λ b. nat_le 0 byte && b) (lt-leb byte 31 (omega arith)) ∙ no_right (nat_le 0 byte) in
    ap (λ b. b || (byte == 127)) range ∙ ne_eqb byte 127 (λ e. absurd (omega arith))
  where
    no_right : (a : Bool) → (a && false) ≡ false
    no_right true = refl
    no_right false = refl

mark_alone : (byte behind : ℕ) → IsMark byte → is_control_pair byte behind ≡ false
mark_alone byte behind m =
    let most = m.most in
    ap (λ b. b && is_in_range 128 159 behind) (ne_eqb byte 194 (λ e. absurd (omega arith)))

digit_mark : (d : ℕ) → d < 16 → IsMark (digit_char d)
digit_mark d l = elim (cases_lt d 10) [
  | inl low ↦ (let is : digit_char d ≡ 48 + d = ap (λ b. cond b (48 + d) (87 + d)) (lt-ltb d 10 low) in record { least = omega arith; most = omega arith })
  | inr high ↦ (let is : digit_char d ≡ 87 + d = ap (λ b. cond b (48 + d) (87 + d)) (le-ltb d 10 high) in record { least = omega arith; most = omega arith })
]

bytes_by : (x : ℕ) (rest : List ℕ) (hid : Bool) → x < 256 → (hid ≡ false → is_control x ≡ false) → ((j : ℕ) → j < length rest → is_control (get_or rest j 0) ≡ false) → (i : ℕ) → i < length (code hid x ++ rest) → is_control (get_or (code hid x ++ rest) i 0) ≡ false
bytes_by x rest true small q others zero l = refl
bytes_by x rest true small q others (suc zero) l = refl
bytes_by x rest true small q others (suc (suc zero)) l = mark_quiet (digit_char (x / 16)) (digit_mark (x / 16) (omega arith))
bytes_by x rest true small q others (suc (suc (suc zero))) l = mark_quiet (digit_char (x % 16)) (digit_mark (x % 16) (omega arith))
bytes_by x rest true small q others (suc (suc (suc (suc j)))) l = others j (omega arith)
bytes_by x rest false small q others zero l = q refl
bytes_by x rest false small q others (suc j) l = others j (omega arith)

bytes_after : (b : ℕ) (xs : List ℕ) → All (λ byte. byte < 256) xs → (i : ℕ) → i < length (shown_after b xs) → is_control (get_or (shown_after b xs) i 0) ≡ false
unfolding shown_after
bytes_after b [] h i l = absurd (omega arith)
bytes_after b (x ∷ xs) h i l =
    bytes_by x (shown_after x xs) (is_hidden b x (get_or xs 0 0)) (h 0 0 (omega arith)) (λ o. (open_of b x (get_or xs 0 0) o).quiet) (λ j k. bytes_after x xs (rest_bytes x xs h) j k) i l

-- what stands behind a byte that is not hidden makes no control character with it
head_after : (b : ℕ) (xs : List ℕ) → is_control_pair b (get_or xs 0 0) ≡ false → is_control_pair b (get_or (shown_after b xs) 0 0) ≡ false
unfolding shown_after
head_after b [] e = e
head_after b (x ∷ xs) e = by (is_hidden b x (get_or xs 0 0))
  where
    no_right : (a : Bool) → (a && false) ≡ false
    no_right true = refl
    no_right false = refl

    by : (hid : Bool) → is_control_pair b (get_or (code hid x ++ shown_after x xs) 0 0) ≡ false
    by true = no_right (b == 194)
    by false = e

pairs_by : (x : ℕ) (rest : List ℕ) (hid : Bool) → x < 256 → (hid ≡ false → is_control_pair x (get_or rest 0 0) ≡ false) → ((j : ℕ) → is_control_pair (get_or rest j 0) (get_or rest (suc j) 0) ≡ false)
    → (i : ℕ) → is_control_pair (get_or (code hid x ++ rest) i 0) (get_or (code hid x ++ rest) (suc i) 0) ≡ false
pairs_by x rest true small q others zero = refl
pairs_by x rest true small q others (suc zero) = refl
pairs_by x rest true small q others (suc (suc zero)) = mark_alone (digit_char (x / 16)) (digit_char (x % 16)) (digit_mark (x / 16) (omega arith))
pairs_by x rest true small q others (suc (suc (suc zero))) = mark_alone (digit_char (x % 16)) (get_or rest 0 0) (digit_mark (x % 16) (omega arith))
pairs_by x rest true small q others (suc (suc (suc (suc j)))) = others j
pairs_by x rest false small q others zero = q refl
pairs_by x rest false small q others (suc j) = others j

pairs_after : (b : ℕ) (xs : List ℕ) → All (λ byte. byte < 256) xs → (i : ℕ) → is_control_pair (get_or (shown_after b xs) i 0) (get_or (shown_after b xs) (suc i) 0) ≡ false
unfolding shown_after
pairs_after b [] h i = refl
pairs_after b (x ∷ xs) h i =
    pairs_by x (shown_after x xs) (is_hidden b x (get_or xs 0 0)) (h 0 0 (omega arith)) (λ o. head_after x xs (open_of b x (get_or xs 0 0) o).alone) (λ j. pairs_after x xs (rest_bytes x xs h) j) i

pub quiet_law : QuietNameLaw
quiet_law name h = subst HasNoControls (shown_is name) (record { bytes = bytes_after 0 name h; pairs = pairs_after 0 name h })
