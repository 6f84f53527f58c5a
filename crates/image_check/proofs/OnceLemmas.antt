-- How often numbers stand in a list, and lists in order that have each number as often.
use Rattle.std.proofs.Common.{◌≡◌, ◌≢◌, ℕ, zero, suc, ◌+◌, ◌-◌, ◌<◌, ◌≤◌, Bool, true, false, cond, eqb, List, [], ◌∷◌, ◌++◌, length, length-append}
use Rattle.std.proofs.Common.{get_or, refl, sym, ap, subst, ◌∙◌, inl, inr, arith}
use Rattle.std.specs.Prelude.{filter, IsPermutation}
use Rattle.std.specs.List.{range_with_len}
use Rattle.std.specs.List.Sorted.{IsNonDecreasingBy}
use Rattle.std.proofs.lemmas.Bool.{cases_lt, eq-eqb, ne_eqb}
use Rattle.std.proofs.lemmas.List.Sorted.{sum_by-IsPermutation}
use Rattle.page_layout.proofs.CountLemmas.{bit, count_by-cons, count_by-append}
use Rattle.image_check.specs.Noted.{times}
use Rattle.image_check.specs.Rising.{IsRisingBelow}
use Rattle.image_check.proofs.StaleLemmas.{noted_more, noted_same, rising_more, rising_same, rising_none}

-- ---- counts

pub times-append : (n : ℕ) (xs ys : List ℕ) → times n (xs ++ ys) ≡ times n xs + times n ys
times-append n xs ys = count_by-append (λ x. eqb x n) xs ys

times-cons : (n x : ℕ) (xs : List ℕ) → times n (x ∷ xs) ≡ bit (eqb x n) + times n xs
times-cons n x xs = count_by-cons (λ y. eqb y n) x xs

times_here : (n : ℕ) (xs : List ℕ) → times n (n ∷ xs) ≡ suc (times n xs)
times_here n xs = let one : bit (eqb n n) ≡ 1 = ap bit (eq-eqb n n refl) in omega (arith, times-cons n n xs)

times_other : (n x : ℕ) (xs : List ℕ) → x ≢ n → times n (x ∷ xs) ≡ times n xs
times_other n x xs ne = let none : bit (eqb x n) ≡ 0 = ap bit (ne_eqb x n ne) in omega (arith, times-cons n x xs)

pub times-permutation : (n : ℕ) (xs ys : List ℕ) → IsPermutation xs ys → times n ys ≡ times n xs
times-permutation n xs ys moved = sum_by-IsPermutation (λ x. bit (eqb x n)) xs ys moved

-- ---- a part of a range

times_low : (p : ℕ → Bool) (n a m : ℕ) → n < a → times n (filter p (range_with_len a m)) ≡ 0
times_low p n a zero l = refl
times_low p n a (suc m) l =
    let rest : times n (filter p (range_with_len (a + 1) m)) ≡ 0 = times_low p n (a + 1) m (omega arith) in
    (elim (p a) as (λ b. times n (cond b (a ∷ filter p (range_with_len (a + 1) m)) (filter p (range_with_len (a + 1) m))) ≡ 0) [
      | true ↦ times_other n a (filter p (range_with_len (a + 1) m)) (λ e. omega arith) ∙ rest
      | false ↦ rest
    ])

times_high : (p : ℕ → Bool) (n a m : ℕ) → a + m ≤ n → times n (filter p (range_with_len a m)) ≡ 0
times_high p n a zero l = refl
times_high p n a (suc m) l =
    let rest : times n (filter p (range_with_len (a + 1) m)) ≡ 0 = times_high p n (a + 1) m (omega arith) in
    (elim (p a) as (λ b. times n (cond b (a ∷ filter p (range_with_len (a + 1) m)) (filter p (range_with_len (a + 1) m))) ≡ 0) [
      | true ↦ times_other n a (filter p (range_with_len (a + 1) m)) (λ e. omega arith) ∙ rest
      | false ↦ rest
    ])

times_first : (p : ℕ → Bool) (a m : ℕ) → times a (filter p (range_with_len a (suc m))) ≡ bit (p a)
times_first p a m =
    let rest : times a (filter p (range_with_len (a + 1) m)) ≡ 0 = times_low p a (a + 1) m (omega arith) in
    (elim (p a) as (λ b. times a (cond b (a ∷ filter p (range_with_len (a + 1) m)) (filter p (range_with_len (a + 1) m))) ≡ bit b) [
      | true ↦ times_here a (filter p (range_with_len (a + 1) m)) ∙ ap suc rest
      | false ↦ rest
    ])

times_in : (p : ℕ → Bool) (n a m : ℕ) → a ≤ n → n < a + m → times n (filter p (range_with_len a m)) ≡ bit (p n)
times_in p n a zero low high = absurd (omega arith)
times_in p n a (suc m) low high = elim (cases_lt a n) [
  | inl less ↦
      let rest : times n (filter p (range_with_len (a + 1) m)) ≡ bit (p n) = times_in p n (a + 1) m (omega arith) (omega arith) in
      (elim (p a) as (λ b. times n (cond b (a ∷ filter p (range_with_len (a + 1) m)) (filter p (range_with_len (a + 1) m))) ≡ bit (p n)) [
        | true ↦ times_other n a (filter p (range_with_len (a + 1) m)) (λ e. omega arith) ∙ rest
        | false ↦ rest
      ])
  | inr over ↦
      let same : n ≡ a = omega arith in
      ap (λ k. times k (filter p (range_with_len a (suc m)))) same ∙ (times_first p a m ∙ ap (λ k. bit (p k)) (sym same))
]

-- of a range the numbers that pass stand in the list once, and no other
pub times_inside : (p : ℕ → Bool) (n a m : ℕ) → a ≤ n → n < a + m → times n (filter p (range_with_len a m)) ≡ bit (p n)
times_inside p n a m low high = times_in p n a m low high

pub times_outside : (p : ℕ → Bool) (n a m : ℕ) → (a ≤ n → n < a + m → p n ≡ false) → times n (filter p (range_with_len a m)) ≡ 0
times_outside p n a m out = elim (cases_lt n a) [
  | inl below ↦ times_low p n a m below
  | inr from ↦ elim (cases_lt n (a + m)) [
    | inl inside ↦ times_in p n a m (omega arith) inside ∙ ap bit (out (omega arith) inside)
    | inr past ↦ times_high p n a m (omega arith)
  ]
]

-- ---- lists in order

-- each number is at least the one before it, and the first is at least a
abbrev IsFrom : ℕ → List ℕ → Type 0
IsFrom a [] = Unit {0}
IsFrom a (x ∷ xs) = (a ≤ x) × IsFrom x xs

from_low : (a b : ℕ) (xs : List ℕ) → a ≤ b → IsFrom b xs → IsFrom a xs
from_low a b [] l h = tt
from_low a b (x ∷ xs) l h = let first = h.0 in (omega arith, h.1)

none_below : (n a : ℕ) (xs : List ℕ) → n < a → IsFrom a xs → times n xs ≡ 0
none_below n a [] l h = refl
none_below n a (x ∷ xs) l h = let first = h.0 in times_other n x xs (λ e. omega arith) ∙ none_below n x xs (omega arith) h.1

heads_same : (x y : ℕ) (xs ys : List ℕ) → IsFrom x xs → IsFrom y ys → ((n : ℕ) → times n (x ∷ xs) ≡ times n (y ∷ ys)) → x ≡ y
heads_same x y xs ys h k e = elim (cases_lt x y) [
  | inl less ↦ absurd (let none = none_below x y (y ∷ ys) less (omega arith, k) in let here = times_here x xs in let same = e x in omega arith)
  | inr over ↦ elim (cases_lt y x) [
    | inl more ↦ absurd (let none = none_below y x (x ∷ xs) more (omega arith, h) in let here = times_here y ys in let same = e y in omega arith)
    | inr under ↦ omega arith
  ]
]

same_sorted : (a b : ℕ) (xs ys : List ℕ) → IsFrom a xs → IsFrom b ys → ((n : ℕ) → times n xs ≡ times n ys) → xs ≡ ys
same_sorted a b [] [] h k e = refl
same_sorted a b [] (y ∷ ys) h k e = absurd (let here = times_here y ys in let same : 0 ≡ times y (y ∷ ys) = e y in omega arith)
same_sorted a b (x ∷ xs) [] h k e = absurd (let here = times_here x xs in let same : times x (x ∷ xs) ≡ 0 = e x in omega arith)
same_sorted a b (x ∷ xs) (y ∷ ys) h k e =
    let head : x ≡ y = heads_same x y xs ys h.1 k.1 e in
    let tail : xs ≡ ys = same_sorted x y xs ys h.1 k.1 (λ n.
    let left = times-cons n x xs in let right = times-cons n y ys in let all = e n in let first : bit (eqb x n) ≡ bit (eqb y n) = ap (λ z. bit (eqb z n)) head in omega arith) in
    ap (λ zs. x ∷ zs) tail ∙ ap (λ z. z ∷ ys) head

filter_from : (p : ℕ → Bool) (a m : ℕ) → IsFrom a (filter p (range_with_len a m))
filter_from p a zero = tt
filter_from p a (suc m) =
    let rest : IsFrom (a + 1) (filter p (range_with_len (a + 1) m)) = filter_from p (a + 1) m in
    let up : a ≤ a + 1 = omega arith in
    let same : a ≤ a = omega arith in
    (elim (p a) as (λ b. IsFrom a (cond b (a ∷ filter p (range_with_len (a + 1) m)) (filter p (range_with_len (a + 1) m)))) [
      | true ↦ (same, from_low a (a + 1) (filter p (range_with_len (a + 1) m)) up rest)
      | false ↦ from_low a (a + 1) (filter p (range_with_len (a + 1) m)) up rest
    ])

from_order : (a : ℕ) (xs : List ℕ) → (0 < length xs → a ≤ get_or xs 0 0) → IsNonDecreasingBy (λ x. x) xs → IsFrom a xs
from_order a [] first order = tt
from_order a (x ∷ xs) first order =
    (first (omega arith), from_order x xs (λ some. order 0 1 0 (omega arith) (omega arith)) (λ i j d le within. order (suc i) (suc j) d (omega arith) (omega arith)))

-- a sorted list that has each number as often as the part of a range is that part
pub sorted_is : (p : ℕ → Bool) (m : ℕ) (xs : List ℕ) → IsNonDecreasingBy (λ x. x) xs → ((n : ℕ) → times n xs ≡ times n (filter p (range_with_len 0 m))) → xs ≡ filter p (range_with_len 0 m)
sorted_is p m xs order e = same_sorted 0 0 xs (filter p (range_with_len 0 m)) (from_order 0 xs (λ some. omega arith) order) (filter_from p 0 m) e

-- ---- how long

record Split (x : ℕ) (ys : List ℕ) : Type 0 where
  before : List ℕ
  after : List ℕ
  is : ys ≡ before ++ x ∷ after

split : (x : ℕ) (ys : List ℕ) (k : ℕ) → times x ys ≡ suc k → Split x ys
split x [] k e = absurd (let none : 0 ≡ suc k = e in omega arith)
split x (y ∷ ys) k e = elim (cases_lt x y) [
  | inl less ↦ later x y ys (split x ys k (sym (times_other x y ys (λ s. omega arith)) ∙ e))
  | inr over ↦ elim (cases_lt y x) [
    | inl more ↦ later x y ys (split x ys k (sym (times_other x y ys (λ s. omega arith)) ∙ e))
    | inr under ↦ let same : y ≡ x = omega arith in record { before = []; after = ys; is = ap (λ z. z ∷ ys) same }
  ]
]
  where
    later : (x y : ℕ) (ys : List ℕ) → Split x ys → Split x (y ∷ ys)
    later x y ys s = record { before = y ∷ s.before; after = s.after; is = ap (λ zs. y ∷ zs) s.is }

-- lists that have each number as often are as long
pub length_same : (xs ys : List ℕ) → ((n : ℕ) → times n xs ≡ times n ys) → length xs ≡ length ys
length_same [] [] e = refl
length_same [] (y ∷ ys) e = absurd (let here = times_here y ys in let same : 0 ≡ times y (y ∷ ys) = e y in omega arith)
length_same (x ∷ xs) ys e =
    let s : Split x ys = split x ys (times x xs) (sym (e x) ∙ times_here x xs) in
    let rest : length xs ≡ length (s.before ++ s.after) = length_same xs (s.before ++ s.after) (λ n.
    let all = e n in
    let left = times-cons n x xs in
    let parts : times n ys ≡ times n (s.before ++ x ∷ s.after) = ap (times n) s.is in
    let cut = times-append n s.before (x ∷ s.after) in
    let right = times-cons n x s.after in
    let joined = times-append n s.before s.after in
    omega arith) in
    let long : length ys ≡ length (s.before ++ x ∷ s.after) = ap length s.is in
    omega (arith, length-append s.before (x ∷ s.after), length-append s.before s.after)

-- ---- rising

pub filter_rising : (p : ℕ → Bool) (m : ℕ) → IsRisingBelow m (filter p (range_with_len 0 m))
filter_rising p zero = rising_none [] refl
filter_rising p (suc m) =
    let before : IsRisingBelow m (filter p (range_with_len 0 m)) = filter_rising p m in
    let one : m + 1 ≡ suc m = omega arith in
    by_test (p m) refl before one
  where
    by_test : (b : Bool) → p m ≡ b → IsRisingBelow m (filter p (range_with_len 0 m)) → m + 1 ≡ suc m → IsRisingBelow (suc m) (filter p (range_with_len 0 (suc m)))
    by_test true test before one =
        let now : List ℕ = filter p (range_with_len 0 m) in
        let start : m - 0 ≡ m = omega arith in
        let grown : now ++ m ∷ [] ≡ filter p (range_with_len 0 (m + 1 - 0)) = noted_more p 0 m [] now (now ++ m ∷ []) (omega arith) (ap (λ k. filter p (range_with_len 0 k)) (sym start)) refl test in
        let same : m + 1 - 0 ≡ suc m = omega arith in
        subst (λ k. IsRisingBelow k (filter p (range_with_len 0 k))) one (subst (λ xs. IsRisingBelow (m + 1) xs) (grown ∙ ap (λ k. filter p (range_with_len 0 k)) (same ∙ sym one)) (rising_more m now (now ++ m ∷ []) refl before))
    by_test false test before one =
        let now : List ℕ = filter p (range_with_len 0 m) in
        let start : m - 0 ≡ m = omega arith in
        let grown : now ≡ filter p (range_with_len 0 (m + 1 - 0)) = noted_same p 0 m [] now (omega arith) (ap (λ k. filter p (range_with_len 0 k)) (sym start)) test in
        let same : m + 1 - 0 ≡ suc m = omega arith in
        subst (λ k. IsRisingBelow k (filter p (range_with_len 0 k))) one (subst (λ xs. IsRisingBelow (m + 1) xs) (grown ∙ ap (λ k. filter p (range_with_len 0 k)) (same ∙ sym one)) (rising_same m now before))
