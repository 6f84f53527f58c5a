-- Bytes looked at in lanes: a chunk by its mask, and a list chunk by chunk.
use Rattle.std.proofs.Common.{◌≡◌, ℕ, ◌+◌, ◌*◌, Bool, true, false, ◌||◌, ◌&&◌, cond, eqb, not, List, [], ◌∷◌, length, take, drop, map, refl, sym, ap}
use Rattle.std.proofs.Common.{◌∙◌, arith, take-append-drop, length-drop, ◌-◌}
use Rattle.std.proofs.Math.Seq.{take-length}
use Rattle.std.specs.List.{list_any, list_all}
use Rattle.std.proofs.lemmas.Bool.Decides.{nat_tests}
use Rattle.std.proofs.lemmas.List.Folds.{list_any-append}
use Rattle.std.specs.Simd.Lanes.{chunk, mask_l}
use Rattle.page_layout.specs.Sound.{is_filled}
use lib.Seq.{take-add}

-- ---- a mask

odd : (m : ℕ) → not (eqb (1 + 2 * m) 0) ≡ true
odd m = grind (arith, nat_tests)

even : (m : ℕ) → not (eqb (0 + 2 * m) 0) ≡ not (eqb m 0)
even m = grind (arith, nat_tests)

-- a bit is set where a lane passes
pub some_set : (p : ℕ → Bool) (xs : List ℕ) → not (eqb (mask_l (map p xs)) 0) ≡ list_any p xs
some_set p [] = refl
some_set p (x ∷ xs) = (elim (p x) as (λ b. not (eqb (cond b 1 0 + 2 * mask_l (map p xs)) 0) ≡ (b || list_any p xs)) [
  | true ↦ odd (mask_l (map p xs))
  | false ↦ even (mask_l (map p xs)) ∙ some_set p xs
])

-- ---- chunk by chunk

or_none : (a b : Bool) → a ≡ false → (a || b) ≡ b
or_none a b e = ap (λ t. t || b) e

or_some : (a b : Bool) → b ≡ true → (a || b) ≡ true
or_some true b e = refl
or_some false b e = e

pub none_first : (p : ℕ → Bool) (n : ℕ) (xs : List ℕ) → n ≡ 0 → list_any p (take n xs) ≡ false
none_first p n xs e = ap (λ k. list_any p (take k xs)) e

-- none so far, and none in the next chunk
pub none_more : (p : ℕ → Bool) (i n m : ℕ) (xs : List ℕ) → m ≡ i + n → list_any p (take i xs) ≡ false → list_any p (chunk i n xs) ≡ false → list_any p (take m xs) ≡ false
none_more p i n m xs e none here =
    ap (λ k. list_any p (take k xs)) e ∙ (ap (list_any p) (take-add i n xs) ∙ (list_any-append p (take i xs) (chunk i n xs) ∙ (or_none (list_any p (take i xs)) (list_any p (chunk i n xs)) none ∙ here)))

-- what stands behind a place, as it is lent
rest_of : (i : ℕ) (xs : List ℕ) → take (length xs - i) (drop i xs) ≡ drop i xs
rest_of i xs = ap (λ k. take k (drop i xs)) (sym (length-drop i xs)) ∙ take-length (drop i xs)

-- none so far, so that the rest decides
none_after : (p : ℕ → Bool) (i : ℕ) (xs : List ℕ) → list_any p (take i xs) ≡ false → list_any p xs ≡ list_any p (drop i xs)
none_after p i xs none = sym (ap (list_any p) (take-append-drop i xs)) ∙ (list_any-append p (take i xs) (drop i xs) ∙ or_none (list_any p (take i xs)) (list_any p (drop i xs)) none)

pub none_rest : (p : ℕ → Bool) (i at : ℕ) (xs : List ℕ) → i ≡ at → list_any p (take i xs) ≡ false → list_any p xs ≡ list_any p (take (length xs - at) (drop at xs))
none_rest p i at xs e none = none_after p i xs none ∙ (ap (λ k. list_any p (drop k xs)) e ∙ sym (ap (list_any p) (rest_of at xs)))

-- one in a chunk is one of all
pub one_in : (p : ℕ → Bool) (i n : ℕ) (xs : List ℕ) → list_any p (chunk i n xs) ≡ true → list_any p xs ≡ true
one_in p i n xs here =
    let rest : list_any p (drop i xs) ≡ true = later p n (drop i xs) here in
    sym (ap (list_any p) (take-append-drop i xs)) ∙ (list_any-append p (take i xs) (drop i xs) ∙ or_some (list_any p (take i xs)) (list_any p (drop i xs)) rest)
  where
    or_first : (a b : Bool) → a ≡ true → (a || b) ≡ true
    or_first a b e = ap (λ t. t || b) e

    later : (p : ℕ → Bool) (n : ℕ) (xs : List ℕ) → list_any p (take n xs) ≡ true → list_any p xs ≡ true
    later p n xs e = sym (ap (list_any p) (take-append-drop n xs)) ∙ (list_any-append p (take n xs) (drop n xs) ∙ or_first (list_any p (take n xs)) (list_any p (drop n xs)) e)

-- ---- all of them

-- all pass where none fails
pub all_is_none : (p : ℕ → Bool) (xs : List ℕ) → list_all p xs ≡ not (list_any (λ x. not (p x)) xs)
all_is_none p [] = refl
all_is_none p (x ∷ xs) = (elim (p x) as (λ b. (b && list_all p xs) ≡ not (not b || list_any (λ y. not (p y)) xs)) [
  | true ↦ all_is_none p xs
  | false ↦ refl
])

-- a byte that isn't FFh
abbrev pub is_other : ℕ → Bool
is_other b = not (eqb b 255)

pub filled_none : (xs : List ℕ) → is_filled xs ≡ not (list_any is_other xs)
unfolding is_filled
filled_none xs = all_is_none (λ b. eqb b 255) xs

-- a chunk with another byte
pub not_filled : (i n : ℕ) (xs : List ℕ) → list_any is_other (chunk i n xs) ≡ true → is_filled xs ≡ false
not_filled i n xs here = filled_none xs ∙ ap not (one_in is_other i n xs here)

-- none so far, so that the rest decides
pub filled_rest : (i at : ℕ) (xs : List ℕ) → i ≡ at → list_any is_other (take i xs) ≡ false → is_filled xs ≡ is_filled (take (length xs - at) (drop at xs))
filled_rest i at xs e none = filled_none xs ∙ (ap not (none_rest is_other i at xs e none) ∙ sym (filled_none (take (length xs - at) (drop at xs))))
