-- A word is taken apart in one way, and so says one size.
use
    Rattle.std.proofs.Common.{
      ◌≡◌,
      ℕ,
      ◌+◌,
      ◌*◌,
      ◌^◌,
      ◌<◌,
      ◌≤◌,
      ◌%◌,
      ◌/◌,
      ◌⊎◌,
      inl,
      inr,
      ◌&&◌,
      ◌||◌,
      ◌-◌,
      ◌==◌,
      nat_lt,
      nat_le,
      if◌then◌else◌,
      suc,
      zero,
      Bool,
      true,
      false,
      List,
      [],
      ◌∷◌,
      ◌++◌,
      length,
      take,
      drop,
      Option,
      Some,
      None,
      refl,
      sym,
      ap,
      subst,
      ◌∙◌,
      arith,
      rules,
      bytes_eq,
      codes,
    }
use Rattle.std.specs.Option.{option_and_then}
use Rattle.std.proofs.Math.Nat.{mod-eq-sub-div-mul, mul-div_cancel, mul-mod_left, one-le-pow}
use Rattle.std.proofs.Math.Seq.{take-append_seam, drop-append_seam}
use Rattle.std.proofs.lemmas.List.{take-append-drop}
use Rattle.disk_commands.specs.Sizes.{SaysUnits, behind_point, binary_of, count_from, decimal_of, digits_before, is_digit, next_count, digits_behind_point, rest_of, suffix_of, unit_by, unit_of, whole_of}

-- ---- numbers

pub ten_positive : (places : ℕ) → 0 < 10 ^ places
ten_positive places = one-le-pow places 10 (omega arith)

pub no_part : (scale product bytes : ℕ) → (product % scale ≡ 0 → ⊥) → bytes * scale ≡ product → ⊥
no_part scale product bytes odd e = odd (sym (ap (λ x. x % scale) e) ∙ mul-mod_left bytes scale)

pub divided : (product scale : ℕ) → product % scale ≡ 0 → product / scale * scale ≡ product
divided product scale even = grind (arith, mod-eq-sub-div-mul product scale, even)

pub out_of_range : (bytes : ℕ) → (bytes ≡ 0) ⊎ ((bytes ≡ 0 → ⊥) × (2 ^ 63 < bytes)) → 1 ≤ bytes → bytes ≤ 2 ^ 63 → ⊥
out_of_range bytes (inl none) least most = omega (arith, none, least)
out_of_range bytes (inr more) least most = omega (arith, more.1, most)

-- ---- digits

append_by : (o : Option ℕ) (cs ys : List ℕ) → ((m : ℕ) → count_from m (cs ++ ys) ≡ option_and_then (λ k. count_from k ys) (count_from m cs))
    → option_and_then (λ m. count_from m (cs ++ ys)) o ≡ option_and_then (λ k. count_from k ys) (option_and_then (λ m. count_from m cs) o)
append_by None cs ys same = refl
append_by (Some m) cs ys same = same m

pub count_append : (n : ℕ) (xs ys : List ℕ) → count_from n (xs ++ ys) ≡ option_and_then (λ k. count_from k ys) (count_from n xs)
count_append n [] ys = refl
count_append n (c ∷ cs) ys = append_by (next_count n c) cs ys (λ m. count_append m cs ys)

some_by : (o : Option ℕ) (f : ℕ → Option ℕ) (d : ℕ) → option_and_then f o ≡ Some d → (m : ℕ) × (o ≡ Some m) × (f m ≡ Some d)
some_by None f d e = absurd (cc)
some_by (Some m) f d e = (m, refl, e)

digit_by : (digit : Bool) (fits : Bool) (v m : ℕ) → (if digit && fits then Some v else None) ≡ Some m → digit ≡ true
digit_by true fits v m e = refl
digit_by false fits v m e = absurd (cc)

next_digit : (n c m : ℕ) → next_count n c ≡ Some m → is_digit c ≡ true
next_digit n c m e = digit_by (is_digit c) (nat_lt (n * 10 + (c - 48)) (2 ^ 64)) (n * 10 + (c - 48)) m e

before_by : (digit : Bool) (rest : ℕ) → digit ≡ true → (if digit then suc rest else 0) ≡ suc rest
before_by true rest e = refl
before_by false rest e = absurd (cc)

-- digits that are counted are those that the text begins with, where none stands behind them
pub front : (xs rest : List ℕ) (n d : ℕ) → count_from n xs ≡ Some d → digits_before rest ≡ 0 → digits_before (xs ++ rest) ≡ length xs
front [] rest n d e none = none
front (c ∷ cs) rest n d e none =
    let it = some_by (next_count n c) (λ m. count_from m cs) d e in
    before_by (is_digit c) (digits_before (cs ++ rest)) (next_digit n c it.0 it.1) ∙ ap suc (front cs rest it.0 d it.2 none)

-- ---- letters

letters_none : (c : ℕ) → c ≤ 57 → (binary_of c ≡ None) × (decimal_of c ≡ None)
letters_none c small = grind arith

if_none : (a b : Bool) (x y : Option ℕ) → x ≡ None → y ≡ None → (if a then x else (if b then y else None)) ≡ None
if_none true b x y e f = e
if_none false true x y e f = f
if_none false false x y e f = refl

unit_none : (behind : List ℕ) (c : ℕ) → c ≤ 57 → unit_by behind c ≡ None
unit_none behind c small =
    let both = letters_none c small in
    if_none (bytes_eq behind [] || bytes_eq behind (codes "iB")) (bytes_eq behind (codes "B")) (binary_of c) (decimal_of c) both.0 both.1

-- a unit begins with a letter, and so what it stands in begins with no digit and no point
no_letter : (behind : List ℕ) (c u : ℕ) → unit_by behind c ≡ Some u → c ≤ 57 → ⊥
no_letter behind c u named small = let clash : None ≡ Some u = sym (unit_none behind c small) ∙ named in cc

digit_small : (c : ℕ) → is_digit c ≡ true → c ≤ 57
digit_small c digit = grind arith

false_by : (b : Bool) → (b ≡ true → ⊥) → b ≡ false
false_by true never = absurd (never refl)
false_by false never = refl

no_front : (digit : Bool) (rest : ℕ) → digit ≡ false → (if digit then suc rest else 0) ≡ 0
no_front true rest e = absurd (cc)
no_front false rest e = refl

pub suffix_front : (suffix : List ℕ) (u : ℕ) → unit_of suffix ≡ Some u → digits_before suffix ≡ 0
suffix_front [] u named = refl
suffix_front (c ∷ behind) u named =
    no_front (is_digit c) (digits_before behind) (false_by (is_digit c) (λ digit. no_letter behind c u named (digit_small c digit)))

point_small : (c : ℕ) → (c == 46) ≡ true → c ≤ 57
point_small c e = grind arith

no_point : (behind : List ℕ) (c u : ℕ) → unit_by behind c ≡ Some u → (c == 46) ≡ false
no_point behind c u named = false_by (c == 46) (λ e. no_letter behind c u named (point_small c e))

-- ---- the parts

point_front : (part suffix : List ℕ) (u : ℕ) → unit_of suffix ≡ Some u → digits_before (behind_point part ++ suffix) ≡ 0
point_front [] suffix u named = suffix_front suffix u named
point_front (c ∷ cs) suffix u named = refl

-- the digits in front are all that is counted
pub whole_is : (xs rest : List ℕ) (n d : ℕ) → count_from n xs ≡ Some d → digits_before rest ≡ 0 → (whole_of (xs ++ rest) ≡ xs) × (rest_of (xs ++ rest) ≡ rest)
whole_is xs rest n d counted none =
    let k = front xs rest n d counted none in
    (ap (λ i. take i (xs ++ rest)) k ∙ take-append_seam xs rest, ap (λ i. drop i (xs ++ rest)) k ∙ drop-append_seam xs rest)

part_if : (point : Bool) (xs : List ℕ) → point ≡ false → (if point then xs else []) ≡ []
part_if true xs e = absurd (cc)
part_if false xs e = refl

suffix_if : (point more : Bool) (xs ys : List ℕ) → point ≡ false → (if point && more then xs else ys) ≡ ys
suffix_if true more xs ys e = absurd (cc)
suffix_if false more xs ys e = refl

more_by : (n : ℕ) (b : Bool) → nat_lt 0 n ≡ b → 0 < n → nat_lt 0 n ≡ true
more_by n true e p = e
more_by n false e p = absurd (grind arith)

more_if : (n k : ℕ) (xs ys : List ℕ) → n ≡ suc k → (if nat_lt 0 n then xs else ys) ≡ xs
more_if n k xs ys e = ap (λ b. if b then xs else ys) (more_by n (nat_lt 0 n) refl (omega (arith, e)))

pub part_is : (part suffix : List ℕ) (e d u : ℕ) → count_from e part ≡ Some d → unit_of suffix ≡ Some u
    → (digits_behind_point (behind_point part ++ suffix) ≡ part) × (suffix_of (behind_point part ++ suffix) ≡ suffix)
part_is [] [] e d u counted named = (refl, refl)
part_is [] (c ∷ behind) e d u counted named =
    let none = no_point behind c u named in
    (part_if (c == 46) (whole_of behind) none, suffix_if (c == 46) (nat_lt 0 (digits_before behind)) (rest_of behind) (c ∷ behind) none)
part_is (p ∷ ps) suffix e d u counted named =
    let both = whole_is (p ∷ ps) suffix e d counted (suffix_front suffix u named) in
    let k : digits_before ((p ∷ ps) ++ suffix) ≡ suc (length ps) = front (p ∷ ps) suffix e d counted (suffix_front suffix u named) in
    (both.0, more_if (digits_before ((p ∷ ps) ++ suffix)) (length ps) (rest_of ((p ∷ ps) ++ suffix)) (46 ∷ ((p ∷ ps) ++ suffix)) k ∙ both.1)

-- A WORD'S PARTS are those that it is taken apart into
pub record Parts (word : List ℕ) (digits places unit : ℕ) : Type 0 where
  pub some_whole : 1 ≤ length (whole_of word)
  pub few : length (digits_behind_point (rest_of word)) ≤ 18
  pub places_are : places ≡ length (digits_behind_point (rest_of word))
  pub digits_are : count_from 0 (whole_of word ++ digits_behind_point (rest_of word)) ≡ Some digits
  pub unit_is : unit_of (suffix_of (rest_of word)) ≡ Some unit

parts_by : (whole part suffix word : List ℕ) (digits places unit : ℕ) → whole_of word ≡ whole → digits_behind_point (rest_of word) ≡ part → suffix_of (rest_of word) ≡ suffix
    → 1 ≤ length whole → places ≤ 18 → places ≡ length part → count_from 0 (whole ++ part) ≡ Some digits → unit_of suffix ≡ Some unit → Parts word digits places unit
parts_by whole part suffix word digits places unit w p s some few are counted named = record {
  some_whole = subst (λ xs. 1 ≤ length xs) (sym w) some;
  few = subst (λ n. n ≤ 18) (are ∙ ap length (sym p)) few;
  places_are = are ∙ ap length (sym p);
  digits_are = ap (λ xs. count_from 0 (xs ++ digits_behind_point (rest_of word))) w ∙ ap (λ ys. count_from 0 (whole ++ ys)) p ∙ counted;
  unit_is = ap unit_of s ∙ named;
}

pub parts_of : (word : List ℕ) (digits places unit : ℕ) → SaysUnits word digits places unit → Parts word digits places unit
parts_of word digits places unit says =
    let it = some_by (count_from 0 says.whole) (λ k. count_from k says.part) digits (sym (count_append 0 says.whole says.part) ∙ says.digits_are) in
    let both = whole_is says.whole (behind_point says.part ++ says.suffix) 0 it.0 it.1 (point_front says.part says.suffix unit says.unit_is) in
    let ends = part_is says.part says.suffix it.0 digits unit it.2 says.unit_is in
    let w = ap whole_of says.split ∙ both.0 in
    let r = ap rest_of says.split ∙ both.1 in
    parts_by says.whole says.part says.suffix word digits places unit w (ap digits_behind_point r ∙ ends.0) (ap suffix_of r ∙ ends.1)
    says.some_whole says.few says.places_are says.digits_are says.unit_is

-- a text is its digits and what stands behind them; of that a point, digits and a suffix
rest_by : (c : ℕ) (cs : List ℕ) (k : ℕ) (point : Bool) → (c == 46) ≡ point → digits_before cs ≡ k
    → behind_point (if point then take k cs else []) ++ (if point && nat_lt 0 k then drop k cs else c ∷ cs) ≡ c ∷ cs
rest_by c cs k false e many = refl
rest_by c cs zero true e many = refl
rest_by c [] (suc k) true e many = absurd (cc)
rest_by c (x ∷ xs) (suc k) true e many =
    let same : c ≡ 46 = grind arith in
    ap (λ l. 46 ∷ (x ∷ (take k xs ++ l))) (more_if (suc k) k (drop k xs) (c ∷ (x ∷ xs)) refl)
    ∙ ap (λ t. 46 ∷ (x ∷ t)) (take-append-drop k xs) ∙ ap (λ l. l ∷ (x ∷ xs)) (sym same)

rest_joined : (rest : List ℕ) → behind_point (digits_behind_point rest) ++ suffix_of rest ≡ rest
rest_joined [] = refl
rest_joined (c ∷ cs) = rest_by c cs (digits_before cs) (c == 46) refl refl

pub joined : (word : List ℕ) → word ≡ whole_of word ++ (behind_point (digits_behind_point (rest_of word)) ++ suffix_of (rest_of word))
joined word = sym (ap (λ r. whole_of word ++ r) (rest_joined (rest_of word)) ∙ take-append-drop (digits_before word) word)

pub says_by : (word : List ℕ) (digits places unit : ℕ) → Parts word digits places unit → SaysUnits word digits places unit
says_by word digits places unit p = record {
  whole = whole_of word;
  part = digits_behind_point (rest_of word);
  suffix = suffix_of (rest_of word);
  split = joined word;
  some_whole = p.some_whole;
  places_are = p.places_are;
  few = subst (λ n. n ≤ 18) (sym p.places_are) p.few;
  digits_are = p.digits_are;
  unit_is = p.unit_is;
}

-- what the parts of a word are, by the calls that take it apart
pub taken_apart : (word text front back part suffix : List ℕ) (k : ℕ) → text ≡ word → k ≡ digits_before text → front ≡ take k text → back ≡ drop k text → part ≡ digits_behind_point back → suffix ≡ suffix_of back
    → (front ≡ whole_of word) × (part ≡ digits_behind_point (rest_of word)) × (suffix ≡ suffix_of (rest_of word))
taken_apart word text front back part suffix k t e f b p s =
    let k_is : k ≡ digits_before word = e ∙ ap digits_before t in
    let back_is : back ≡ rest_of word = b ∙ ap (drop k) t ∙ ap (λ i. drop i word) k_is in
    (f ∙ ap (take k) t ∙ ap (λ i. take i word) k_is, p ∙ ap digits_behind_point back_is, s ∙ ap suffix_of back_is)

-- ---- amounts

pub same_amount : (a b places product : ℕ) → a * 10 ^ places ≡ product → b * 10 ^ places ≡ product → a ≡ b
same_amount a b places product e f = sym (mul-div_cancel a (ten_positive places)) ∙ ap (λ x. x / 10 ^ places) (e ∙ sym f) ∙ mul-div_cancel b (ten_positive places)
