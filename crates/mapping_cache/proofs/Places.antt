-- Where a sector stands on a list by sector, and what the list is with and without it.
use Rattle.std.proofs.Common.{◌≡◌, ◌≢◌, ℕ, zero, suc, ◌+◌, ◌-◌, ◌/◌, ◌<◌, ◌≤◌, ◌∙◌, Bool, true, false, not, cond, eqb, ltb, List, [], ◌∷◌, ◌++◌, length}
use Rattle.std.proofs.Common.{take, drop, set, get_or, filter, Option, Some, None, refl, sym, ap, subst, arith, inl, inr, is_some}
use Rattle.std.specs.List.{IsDistinct, AllByRecursion, insert, remove}
use Rattle.std.specs.List.Sorted.{IsNonDecreasingBy}
use Rattle.std.specs.Map.{keys_of, lookup}
use Rattle.std.proofs.lemmas.Bool.{eqb-true, eqb-false, eq-eqb, ne_eqb, ltb-true, ltb-false, lt-ltb, le-ltb, cond-true, cond-false, cases_lt}
use Rattle.std.proofs.lemmas.List.{take-append-drop, drop-drop}
use Rattle.std.proofs.lemmas.Nat.{le-div}
use Rattle.mapping_cache.specs.Mapping.{IsBySector, IsPlace, placed, moved_in, without_sector, without_page}
use Rattle.mapping_cache.proofs.Entries.{by_test}

-- what holds of each element holds at a place
pub at_place : {X : Type 0} (P : X → Type 0) (xs : List X) (j : ℕ) (d : X) → j < length xs → AllByRecursion P xs → P (get_or xs j d)
at_place P [] j d l h = absurd (omega arith)
at_place P (x ∷ xs) zero d l h = h.0
at_place P (x ∷ xs) (suc j) d l h = at_place P xs j d (omega arith) h.1

All_from : {X : Type 0} (P Q : X → Type 0) (xs : List X) → ((x : X) → P x → Q x) → AllByRecursion P xs → AllByRecursion Q xs
All_from P Q [] f h = tt
All_from P Q (x ∷ xs) f h = (f x h.0, All_from P Q xs f h.1)

-- ---- sectors rise
pub sectors_rise : (ms : List (ℕ × ℕ)) → IsBySector ms → (i j : ℕ) (d : ℕ × ℕ) → i < j → j < length ms → (get_or ms i d).0 < (get_or ms j d).0
sectors_rise [] s i j d a l = absurd (omega arith)
sectors_rise (e ∷ es) s i zero d a l = absurd (omega arith)
sectors_rise (e ∷ es) s zero (suc j) d a l = at_place (λ f. e.0 < f.0) es j d (omega arith) s.0
sectors_rise (e ∷ es) s (suc i) (suc j) d a l = sectors_rise es s.1 i j d (omega arith) (omega arith)

pub no_fall : (ms : List (ℕ × ℕ)) → IsBySector ms → IsNonDecreasingBy (λ e. e.0) ms
no_fall ms s i j d a l = elim (cases_lt i j) [
  | inl less ↦ let r = sectors_rise ms s i j d less l in omega arith
  | inr over ↦ let same : i ≡ j = omega arith in rw same (omega arith)
]

div_rises : (p a b : ℕ) → 0 < p → a ≤ b → a / p ≤ b / p
div_rises p a b has le = le-div (a / p) b p has (omega arith)

-- so their pages don't fall
pub pages_rise : (p : ℕ) (ms : List (ℕ × ℕ)) → 0 < p → IsBySector ms → IsNonDecreasingBy (λ e. e.0 / p) ms
pages_rise p ms has s i j d a l = div_rises p (get_or ms i d).0 (get_or ms j d).0 has (no_fall ms s i j d a l)

pub IsDistinct-by_sector : (ms : List (ℕ × ℕ)) → IsBySector ms → IsDistinct eqb (keys_of ms)
unfolding IsDistinct
IsDistinct-by_sector [] s = tt
IsDistinct-by_sector (e ∷ es) s = (apart es s.0, IsDistinct-by_sector es s.1)
  where
    apart : (xs : List (ℕ × ℕ)) → AllByRecursion (λ f. e.0 < f.0) xs → AllByRecursion (λ y. eqb e.0 y ≡ false) (keys_of xs)
    apart [] h = tt
    apart (x ∷ xs) h = (let l = h.0 in ne_eqb e.0 x.0 (λ same. omega arith), apart xs h.1)

pub IsBySector-filter : (p : ℕ × ℕ → Bool) (ms : List (ℕ × ℕ)) → IsBySector ms → IsBySector (filter p ms)
IsBySector-filter p [] s = tt
IsBySector-filter p (e ∷ es) s = by_test (p e)
    (λ y. rw y (kept es s.0, IsBySector-filter p es s.1))
    (λ n. rw n (IsBySector-filter p es s.1))
  where
    kept : (xs : List (ℕ × ℕ)) → AllByRecursion (λ f. e.0 < f.0) xs → AllByRecursion (λ f. e.0 < f.0) (filter p xs)
    kept [] h = tt
    kept (x ∷ xs) h = by_test (p x) (λ y. rw y (h.0, kept xs h.1)) (λ n. rw n (kept xs h.1))

-- ---- a look-up at the place
lookup_here : (n : ℕ) (ms : List (ℕ × ℕ)) (i : ℕ) (d : ℕ × ℕ) → i < length ms → ((k : ℕ) → k < i → (get_or ms k d).0 < n) → (get_or ms i d).0 ≡ n
    → lookup (eqb n) ms ≡ Some (get_or ms i d).1
lookup_here n [] i d l b e = absurd (omega arith)
lookup_here n (m ∷ ms) zero d l b e = cond-true _ _ _ (eq-eqb n m.0 (sym e))
lookup_here n (m ∷ ms) (suc i) d l b e =
    let low : m.0 < n = b 0 (omega arith) in
    cond-false _ _ _ (ne_eqb n m.0 (λ same. omega arith)) ∙ lookup_here n ms i d (omega arith) (λ k k_in. b (suc k) (omega arith)) e

lookup_nowhere : (n : ℕ) (ms : List (ℕ × ℕ)) (d : ℕ × ℕ) → ((k : ℕ) → k < length ms → (get_or ms k d).0 ≢ n) → lookup (eqb n) ms ≡ None
lookup_nowhere n [] d h = refl
lookup_nowhere n (m ∷ ms) d h = cond-false _ _ _ (ne_eqb n m.0 (λ same. h 0 (omega arith) (sym same))) ∙ lookup_nowhere n ms d (λ k k_in. h (suc k) (omega arith))

-- a new row at the place
placed_over : (n row : ℕ) (ms : List (ℕ × ℕ)) (i : ℕ) (d : ℕ × ℕ) → i < length ms → ((k : ℕ) → k < i → (get_or ms k d).0 < n) → (get_or ms i d).0 ≡ n
    → placed n row ms ≡ set ms i (n, row)
placed_over n row [] i d l b e = absurd (omega arith)
placed_over n row (m ∷ ms) zero d l b e = cond-false _ _ _ (le-ltb n m.0 (omega arith)) ∙ cond-true _ _ _ (eq-eqb n m.0 (sym e))
placed_over n row (m ∷ ms) (suc i) d l b e =
    let low : m.0 < n = b 0 (omega arith) in
    cond-false _ _ _ (le-ltb n m.0 (omega arith)) ∙ cond-false _ _ _ (ne_eqb n m.0 (λ same. omega arith)) ∙ ap (λ xs. m ∷ xs) (placed_over n row ms i d (omega arith) (λ k k_in. b (suc k) (omega arith)) e)

placed_between : (n row : ℕ) (ms : List (ℕ × ℕ)) (i : ℕ) (d : ℕ × ℕ) → i ≤ length ms → ((k : ℕ) → k < i → (get_or ms k d).0 < n)
    → (i < length ms → n < (get_or ms i d).0) → placed n row ms ≡ take i ms ++ (n, row) ∷ drop i ms
placed_between n row [] zero d l b f = refl
placed_between n row [] (suc i) d l b f = absurd (omega arith)
placed_between n row (m ∷ ms) zero d l b f = cond-true _ _ _ (lt-ltb n m.0 (f (omega arith)))
placed_between n row (m ∷ ms) (suc i) d l b f =
    let low : m.0 < n = b 0 (omega arith) in
    cond-false _ _ _ (le-ltb n m.0 (omega arith)) ∙ cond-false _ _ _ (ne_eqb n m.0 (λ same. omega arith)) ∙ ap (λ xs. m ∷ xs) (placed_between n row ms i d (omega arith) (λ k k_in. b (suc k) (omega arith)) (λ k_in. f (omega arith)))

-- ---- the elements from a place on that pass a test, so many, and no others
module _ {X : Type 0} (p : X → Bool) where
  pub run_in : (xs : List X) (a n : ℕ) (d : X) → a + n ≤ length xs → ((k : ℕ) → k < a → p (get_or xs k d) ≡ false)
      → ((k : ℕ) → a ≤ k → k < a + n → p (get_or xs k d) ≡ true) → ((k : ℕ) → a + n ≤ k → k < length xs → p (get_or xs k d) ≡ false)
      → filter p xs ≡ take n (drop a xs)
  run_in [] zero zero d l f y g = refl
  run_in [] (suc a) n d l f y g = absurd (omega arith)
  run_in [] zero (suc n) d l f y g = absurd (omega arith)
  run_in (x ∷ xs) (suc a) n d l f y g = cond-false _ _ _ (f 0 (omega arith)) ∙ run_in xs a n d (omega arith) (λ k i. f (suc k) (omega arith)) (λ k i j. y (suc k) (omega arith) (omega arith)) (λ k i j. g (suc k) (omega arith) (omega arith))
  run_in (x ∷ xs) zero (suc n) d l f y g = cond-true _ _ _ (y 0 (omega arith) (omega arith)) ∙ ap (λ zs. x ∷ zs) (run_in xs zero n d (omega arith) (λ k i. absurd (omega arith)) (λ k i j. y (suc k) (omega arith) (omega arith)) (λ k i j. g (suc k) (omega arith) (omega arith)))
  run_in (x ∷ xs) zero zero d l f y g = cond-false _ _ _ (g 0 (omega arith) (omega arith)) ∙ run_in xs zero zero d (omega arith) (λ k i. absurd (omega arith)) (λ k i j. absurd (omega arith)) (λ k i j. g (suc k) (omega arith) (omega arith))

  pub run_out : (xs : List X) (a n : ℕ) (d : X) → a + n ≤ length xs → ((k : ℕ) → k < a → p (get_or xs k d) ≡ false)
      → ((k : ℕ) → a ≤ k → k < a + n → p (get_or xs k d) ≡ true) → ((k : ℕ) → a + n ≤ k → k < length xs → p (get_or xs k d) ≡ false)
      → filter (λ x. not (p x)) xs ≡ take a xs ++ drop n (drop a xs)
  run_out [] zero zero d l f y g = refl
  run_out [] (suc a) n d l f y g = absurd (omega arith)
  run_out [] zero (suc n) d l f y g = absurd (omega arith)
  run_out (x ∷ xs) (suc a) n d l f y g = cond-true _ _ _ (ap not (f 0 (omega arith))) ∙ ap (λ zs. x ∷ zs) (run_out xs a n d (omega arith) (λ k i. f (suc k) (omega arith)) (λ k i j. y (suc k) (omega arith) (omega arith)) (λ k i j. g (suc k) (omega arith) (omega arith)))
  run_out (x ∷ xs) zero (suc n) d l f y g = cond-false _ _ _ (ap not (y 0 (omega arith) (omega arith))) ∙ run_out xs zero n d (omega arith) (λ k i. absurd (omega arith)) (λ k i j. y (suc k) (omega arith) (omega arith)) (λ k i j. g (suc k) (omega arith) (omega arith))
  run_out (x ∷ xs) zero zero d l f y g = cond-true _ _ _ (ap not (g 0 (omega arith) (omega arith))) ∙ ap (λ zs. x ∷ zs) (run_out xs zero zero d (omega arith) (λ k i. absurd (omega arith)) (λ k i j. absurd (omega arith)) (λ k i j. g (suc k) (omega arith) (omega arith)))

-- ---- at the place
module _ (n : ℕ) (ms : List (ℕ × ℕ)) (i : ℕ) (s : IsBySector ms) (p : IsPlace ms n i) where
  -- where n stands at its place
  pub lookup_at : (d : ℕ × ℕ) → i < length ms → (get_or ms i d).0 ≡ n → lookup (eqb n) ms ≡ Some (get_or ms i d).1
  lookup_at d l e = lookup_here n ms i d l (λ k k_in. p.before k d (omega arith) k_in) e

  -- where it doesn't, those from its place on are greater
  above : (d : ℕ × ℕ) → (get_or ms i d).0 ≢ n → (k : ℕ) → i ≤ k → k < length ms → n < (get_or ms k d).0
  above d ne k a l = elim (cases_lt i k) [
    | inl less ↦ let r = sectors_rise ms s i k d less l in let f = p.after i d (omega arith) (omega arith) in omega arith
    | inr over ↦ let same : i ≡ k = omega arith in let f = p.after k d a l in let other = rw same at ne in omega arith
  ]

  pub lookup_none_at : (d : ℕ × ℕ) → (i < length ms → (get_or ms i d).0 ≢ n) → lookup (eqb n) ms ≡ None
  lookup_none_at d ne = lookup_nowhere n ms d (λ k l same. elim (cases_lt k i) [
    | inl less ↦ let b = p.before k d (omega arith) less in omega arith
    | inr over ↦ let g = above d (ne (omega arith)) k over l in omega arith
  ])

  -- the look-up says which
  pub found_there : is_some (lookup (eqb n) ms) ≡ true → (i < length ms) × ((d : ℕ × ℕ) → (get_or ms i d).0 ≡ n)
  found_there found = (
    elim (cases_lt i (length ms)) [
      | inl less ↦ less
      | inr over ↦ let none = lookup_none_at (0, 0) (λ l. absurd (omega arith)) in let no = rw none at found in cc
    ],
    λ d. by_test (eqb (get_or ms i d).0 n)
        (λ y. eqb-true _ _ y)
        (λ f. let none = lookup_none_at d (λ l. eqb-false _ _ f) in let no = rw none at found in cc),
  )

  pub greater_there : is_some (lookup (eqb n) ms) ≡ false → (d : ℕ × ℕ) → i < length ms → n < (get_or ms i d).0
  greater_there missing d l = by_test (eqb (get_or ms i d).0 n)
      (λ y. let found = lookup_at d l (eqb-true _ _ y) in let no = rw found at missing in cc)
      (λ f. above d (eqb-false _ _ f) i (omega arith) l)

  -- so the test of the sector at the place is the look-up's answer
  pub here_is : (d : ℕ × ℕ) → i < length ms → eqb (get_or ms i d).0 n ≡ is_some (lookup (eqb n) ms)
  here_is d l = by_test (eqb (get_or ms i d).0 n)
      (λ y. y ∙ sym (ap is_some (lookup_at d l (eqb-true _ _ y))))
      (λ f. f ∙ sym (ap is_some (lookup_none_at d (λ k_in. eqb-false _ _ f))))

  pub nowhere_is : length ms ≤ i → false ≡ is_some (lookup (eqb n) ms)
  nowhere_is l = sym (ap is_some (lookup_none_at (0, 0) (λ k_in. absurd (omega arith))))

  -- ---- and what the list is then without n, and with a row for it
  alone : (d : ℕ × ℕ) → i < length ms → (get_or ms i d).0 ≡ n → (k : ℕ) → i + 1 ≤ k → k < length ms → eqb (get_or ms k d).0 n ≡ false
  alone d l e k a b = ne_eqb _ n (λ same. let up = sectors_rise ms s i k d (omega arith) b in omega arith)

  below_it : (d : ℕ × ℕ) (k : ℕ) → k < i → eqb (get_or ms k d).0 n ≡ false
  below_it d k l = ne_eqb _ n (λ same. let low = p.before k d (omega arith) l in omega arith)

  pub without_there : is_some (lookup (eqb n) ms) ≡ true → without_sector n ms ≡ remove ms i
  without_there found =
      let there = found_there found in
      run_out (λ (e : ℕ × ℕ). eqb e.0 n) ms i 1 (0, 0) (let l = there.0 in omega arith) (below_it (0, 0))
      (λ k a b. let same : k ≡ i = omega arith in rw same (eq-eqb _ n (there.1 (0, 0))))
      (alone (0, 0) there.0 (there.1 (0, 0)))
      ∙ ap (λ xs. take i ms ++ xs) (drop-drop 1 i ms ∙ ap (λ k. drop k ms) (let k : i + 1 ≡ suc i = omega arith in k))

  pub without_none : is_some (lookup (eqb n) ms) ≡ false → without_sector n ms ≡ ms
  without_none missing =
      run_out (λ (e : ℕ × ℕ). eqb e.0 n) ms i 0 (0, 0) (let l = p.within in omega arith) (below_it (0, 0))
      (λ k a b. absurd (omega arith))
      (λ k a b. ne_eqb _ n (λ same. elim (cases_lt i k) [
        | inl less ↦ (let up = sectors_rise ms s i k (0, 0) less b in let here = greater_there missing (0, 0) (omega arith) in omega arith)
        | inr over ↦ (let there : k ≡ i = omega arith in let here = greater_there missing (0, 0) (omega arith) in let other = rw there at same in omega arith)
      ]))
      ∙ take-append-drop i ms

  pub placed_there : (row : ℕ) → is_some (lookup (eqb n) ms) ≡ true → placed n row ms ≡ set ms i (n, row)
  placed_there row found = let there = found_there found in placed_over n row ms i (0, 0) there.0 (λ k k_in. p.before k (0, 0) (omega arith) k_in) (there.1 (0, 0))

  pub placed_new : (row : ℕ) → is_some (lookup (eqb n) ms) ≡ false → placed n row ms ≡ insert ms i (n, row)
  placed_new row missing = placed_between n row ms i (0, 0) p.within (λ k k_in. p.before k (0, 0) (omega arith) k_in) (greater_there missing (0, 0))

-- ---- a new row
module _ (n row : ℕ) where
  -- the cases of the first sector e of a list
  first_of : (P : List (ℕ × ℕ) → Type 0) (e : ℕ × ℕ) (es : List (ℕ × ℕ)) → (n < e.0 → P ((n, row) ∷ e ∷ es)) → (n ≡ e.0 → P ((n, row) ∷ es)) → (e.0 < n → P (e ∷ placed n row es)) → P (placed n row (e ∷ es))
  first_of P e es less same over = by_test (ltb n e.0)
      (λ y. subst P (sym (cond-true _ _ _ y)) (less (ltb-true n e.0 y)))
      (λ f. let le = ltb-false n e.0 f in by_test (eqb n e.0)
      (λ y. subst P (sym (cond-false _ _ _ f ∙ cond-true _ _ _ y)) (same (eqb-true n e.0 y)))
      (λ g. let ne = eqb-false n e.0 g in subst P (sym (cond-false _ _ _ f ∙ cond-false _ _ _ g)) (over (omega arith))))

  all_placed : (P : ℕ × ℕ → Type 0) (ms : List (ℕ × ℕ)) → P (n, row) → AllByRecursion P ms → AllByRecursion P (placed n row ms)
  all_placed P [] p h = (p, tt)
  all_placed P (e ∷ es) p h = first_of (AllByRecursion P) e es (λ l. (p, h)) (λ l. (p, h.1)) (λ l. (h.0, all_placed P es p h.1))

  pub IsBySector-placed : (ms : List (ℕ × ℕ)) → IsBySector ms → IsBySector (placed n row ms)
  IsBySector-placed [] s = (tt, tt)
  IsBySector-placed (e ∷ es) s = first_of IsBySector e es
      (λ l. ((l, All_from (λ f. e.0 < f.0) (λ f. n < f.0) es (λ f up. omega arith) s.0), s))
      (λ l. (All_from (λ f. e.0 < f.0) (λ f. n < f.0) es (λ f up. omega arith) s.0, s.1))
      (λ l. (all_placed (λ f. e.0 < f.0) es l s.0, IsBySector-placed es s.1))

  pub lookup-placed : (q : ℕ) (ms : List (ℕ × ℕ)) → lookup (eqb q) (placed n row ms) ≡ cond (eqb q n) (Some row) (lookup (eqb q) ms)
  lookup-placed q [] = refl
  lookup-placed q (e ∷ es) = first_of (λ xs. lookup (eqb q) xs ≡ cond (eqb q n) (Some row) (lookup (eqb q) (e ∷ es))) e es
      (λ l. refl)
      (λ same. by_test (eqb q n)
      (λ y. cond-true _ _ _ y ∙ sym (cond-true _ _ _ y))
      (λ f. cond-false _ _ _ f ∙ sym (cond-false _ _ _ f ∙ cond-false _ _ _ (subst (λ z. eqb q z ≡ false) same f))))
      (λ l. by_test (eqb q n)
      (λ y. cond-false _ _ _ (ne_eqb q e.0 (λ is. let q_is = eqb-true q n y in omega arith)) ∙ lookup-placed q es ∙ cond-true _ _ _ y ∙ sym (cond-true _ _ _ y))
      (λ f. ap (cond (eqb q e.0) (Some e.1)) (lookup-placed q es ∙ cond-false _ _ _ f) ∙ sym (cond-false _ _ _ f)))

  pub length-placed : (ms : List (ℕ × ℕ)) → length (placed n row ms) ≤ length ms + 1
  length-placed [] = omega arith
  length-placed (e ∷ es) = let more = length-placed es in first_of (λ xs. length xs ≤ length (e ∷ es) + 1) e es (λ l. omega arith) (λ l. omega arith) (λ l. omega arith)

  lookup_below : (e : ℕ) (es : List (ℕ × ℕ)) (r : ℕ) → AllByRecursion (λ f. e < f.0) es → lookup (eqb n) es ≡ Some r → e < n
  lookup_below e [] r h found = cc
  lookup_below e (f ∷ es) r h found = by_test (eqb n f.0)
      (λ y. let up = h.0 in let is = eqb-true n f.0 y in omega arith)
      (λ g. lookup_below e es r h.1 (sym (cond-false _ _ _ g) ∙ found))

  -- a sector that is there takes no place more
  pub length-placed_again : (ms : List (ℕ × ℕ)) (r : ℕ) → IsBySector ms → lookup (eqb n) ms ≡ Some r → length (placed n row ms) ≡ length ms
  length-placed_again [] r s found = cc
  length-placed_again (e ∷ es) r s found = first_of (λ xs. length xs ≡ length (e ∷ es)) e es
      (λ l. let later = lookup_below e.0 es r s.0 (sym (cond-false _ _ _ (ne_eqb n e.0 (λ same. omega arith))) ∙ found) in absurd (omega arith))
      (λ l. refl)
      (λ l. ap suc (length-placed_again es r s.1 (sym (cond-false _ _ _ (ne_eqb n e.0 (λ same. omega arith))) ∙ found)))

  -- of another page nothing changes
  pub moved_in-placed : (pp t : ℕ) (ms : List (ℕ × ℕ)) → t ≢ n / pp → moved_in pp t (placed n row ms) ≡ moved_in pp t ms
  moved_in-placed pp t [] ne = cond-false _ _ _ (ne_eqb (n / pp) t (λ same. ne (sym same)))
  moved_in-placed pp t (e ∷ es) ne = first_of (λ xs. moved_in pp t xs ≡ moved_in pp t (e ∷ es)) e es
      (λ l. cond-false _ _ _ (ne_eqb (n / pp) t (λ same. ne (sym same))))
      (λ same. let away : eqb (n / pp) t ≡ false = ne_eqb (n / pp) t (λ same. ne (sym same)) in cond-false _ _ _ away ∙ sym (cond-false _ _ _ (subst (λ z. eqb (z / pp) t ≡ false) same away)))
      (λ l. by_test (eqb (e.0 / pp) t)
      (λ y. cond-true _ _ _ y ∙ ap (λ xs. e ∷ xs) (moved_in-placed pp t es ne) ∙ sym (cond-true _ _ _ y))
      (λ f. cond-false _ _ _ f ∙ moved_in-placed pp t es ne ∙ sym (cond-false _ _ _ f)))

  -- and without its own page neither
  pub without_page-placed : (pp : ℕ) (ms : List (ℕ × ℕ)) → without_page pp (n / pp) (placed n row ms) ≡ without_page pp (n / pp) ms
  without_page-placed pp [] = cond-false _ _ _ (ap not (eq-eqb (n / pp) (n / pp) refl))
  without_page-placed pp (e ∷ es) = first_of (λ xs. without_page pp (n / pp) xs ≡ without_page pp (n / pp) (e ∷ es)) e es
      (λ l. cond-false _ _ _ (ap not (eq-eqb (n / pp) (n / pp) refl)))
      (λ same. let its : not (eqb (n / pp) (n / pp)) ≡ false = ap not (eq-eqb (n / pp) (n / pp) refl) in cond-false _ _ _ its ∙ sym (cond-false _ _ _ (ap (λ k. not (eqb (k / pp) (n / pp))) (sym same) ∙ its)))
      (λ l. by_test (not (eqb (e.0 / pp) (n / pp)))
      (λ y. cond-true _ _ _ y ∙ ap (λ xs. e ∷ xs) (without_page-placed pp es) ∙ sym (cond-true _ _ _ y))
      (λ f. cond-false _ _ _ f ∙ without_page-placed pp es ∙ sym (cond-false _ _ _ f)))
