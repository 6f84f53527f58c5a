-- The loop that makes some sectors' entries clean.
use Rattle.std.proofs.Common.{◌≡◌, ℕ, ◌+◌, ◌-◌, ◌*◌, ◌/◌, ◌%◌, ◌<◌, ◌≤◌, ◌∙◌, Bool, true, false, ◌&&◌, eqb, leb, ltb, List, [], ◌∷◌, map, Some, None}
use Rattle.std.proofs.Common.{refl, sym, ap, subst, arith, if◌then◌else◌}
use Rattle.std.specs.List.{IsDistinct, AllByRecursion}
use Rattle.std.specs.Map.{keys_of, lookup, set_value}
use Rattle.std.proofs.lemmas.Bool.{eqb-true, eqb-false, eq-eqb, ne_eqb, cond-true, cond-false, and_parts, and_from, leb-true, ltb-true, le-leb}
use Rattle.std.proofs.lemmas.Bool.{lt-ltb, false≢true}
use Rattle.std.proofs.lemmas.Nat.{div-mul-add, mod_below, div-add-mod'}
use Rattle.std.proofs.lemmas.Bool.Decides.{nat_tests}
use Rattle.std.proofs.lemmas.Map.{NonePasses, none_passes_from_lookup}
use Rattle.std.proofs.lemmas.Map.Keys.{IsDistinct-tail, IsDistinct-head}
use Rattle.mapping_cache.specs.declared.slot.Slot.{Slot}
use Rattle.mapping_cache.specs.Mapping.{clean_entry, clean_between}
use Rattle.mapping_cache.proofs.Entries.{by_test}

-- sector n is one of so many from the first on
abbrev pub is_between : ℕ → ℕ → ℕ → Bool
is_between first count n = leb first n && ltb n (first + count)

clean_same : (first second i j : ℕ) (e : ℕ × Slot) → is_between first i e.0 ≡ is_between second j e.0 → clean_between first i e ≡ clean_between second j e
clean_same first second i j e same = let with_test : Bool → ℕ × Slot = λ b. (e.0, record { row = e.1.row; dirty = if b then false else e.1.dirty }) in ap with_test same

passes_from_map : (test : ℕ → Bool) (first i : ℕ) (es : List (ℕ × Slot)) → NonePasses test (map (clean_between first i) es) → NonePasses test es
passes_from_map test first i [] h = tt
passes_from_map test first i (e ∷ es) h = (h.0, passes_from_map test first i es h.1)

pub passes_from_keys : {X : Type 0} (k : ℕ) (es : List (ℕ × X)) → AllByRecursion (λ y. eqb k y ≡ false) (keys_of es) → NonePasses (eqb k) es
passes_from_keys k [] h = tt
passes_from_keys k (e ∷ es) h = (h.0, passes_from_keys k es h.1)

none_between : (first n : ℕ) → is_between first 0 n ≡ false
none_between first n = grind (arith, nat_tests)

next_between : (first i : ℕ) → is_between first (i + 1) (first + i) ≡ true
next_between first i = grind (arith, nat_tests)

others_between : (first i n : ℕ) → eqb (first + i) n ≡ false → is_between first (i + 1) n ≡ is_between first i n
others_between first i n ne = let other = eqb-false (first + i) n ne in grind (arith, nat_tests)

pub clean_none : (first : ℕ) (es : List (ℕ × Slot)) → map (clean_between first 0) es ≡ es
clean_none first [] = refl
clean_none first (e ∷ es) = rw (none_between first e.0, clean_none first es)

-- sector k is the (k - t * e)-th of page t
pub of_page_at : (e t k : ℕ) → t * e ≤ k → k < t * e + e → k / e ≡ t
of_page_at e t k l h =
    let i : t * e + (k - t * e) ≡ k = omega arith in
    ap (λ n. n / e) (sym i) ∙ div-mul-add t e (k - t * e) (omega arith)

pub in_page_at : (e t n : ℕ) → 0 < e → n / e ≡ t → (t * e ≤ n) × (n < t * e + e)
in_page_at e t n has of =
    let whole : t * e + n % e ≡ n = subst (λ q. q * e + n % e ≡ n) of (div-add-mod' n e) in
    let below : n % e < e = mod_below n e has in
    (omega arith, omega arith)

-- the sectors of a page
page_between : (per_page t n : ℕ) → 0 < per_page → is_between (t * per_page) per_page n ≡ eqb (n / per_page) t
page_between per_page t n has = by_test (is_between (t * per_page) per_page n)
    (λ y.
    let both = and_parts (leb (t * per_page) n) (ltb n (t * per_page + per_page)) y in
    y ∙ sym (eq-eqb (n / per_page) t (of_page_at per_page t n (leb-true (t * per_page) n both.0) (ltb-true n (t * per_page + per_page) both.1))))
    (λ f. f ∙ sym (ne_eqb (n / per_page) t (λ of.
    let in_it = in_page_at per_page t n has of in
    let y : is_between (t * per_page) per_page n ≡ true = and_from (leb (t * per_page) n) (ltb n (t * per_page + per_page)) (le-leb (t * per_page) n in_it.0) (lt-ltb n (t * per_page + per_page) in_it.1) in
    false≢true (sym f ∙ y))))

pub clean_page : (per_page t : ℕ) → 0 < per_page → (es : List (ℕ × Slot)) → map (clean_between (t * per_page) per_page) es ≡ map (clean_entry per_page t) es
clean_page per_page t has [] = refl
clean_page per_page t has (e ∷ es) = rw (page_between per_page t e.0 has, clean_page per_page t has es)

module _ (first i : ℕ) where
  -- entries of other sectors stay
  clean_apart : (es : List (ℕ × Slot)) → NonePasses (eqb (first + i)) es → map (clean_between first (i + 1)) es ≡ map (clean_between first i) es
  clean_apart [] h = refl
  clean_apart (e ∷ es) h = rw (clean_same first first (i + 1) i e (others_between first i e.0 h.0), clean_apart es h.1)

  pub clean_missing : (es : List (ℕ × Slot)) → lookup (eqb (first + i)) (map (clean_between first i) es) ≡ None → map (clean_between first (i + 1)) es ≡ map (clean_between first i) es
  clean_missing es h = clean_apart es (passes_from_map _ first i es (none_passes_from_lookup _ _ h))

  pub clean_found : (es : List (ℕ × Slot)) (s : Slot) → IsDistinct eqb (keys_of es)
      → lookup (eqb (first + i)) (map (clean_between first i) es) ≡ Some s
      → map (clean_between first (i + 1)) es ≡ set_value (eqb (first + i)) (map (clean_between first i) es) (record { row = s.row; dirty = false })
  clean_found [] s d h = cc
  clean_found (e ∷ es) s d h = by_test (eqb (first + i) e.0)
      (λ y.
      let key = eqb-true (first + i) e.0 y in
      let found : Some ((clean_between first i e).1) ≡ Some s = sym (cond-true _ _ _ y) ∙ h in
      let same : (clean_between first i e).1 ≡ s = cc in
      let row : e.1.row ≡ s.row = ap (λ (x : Slot). x.row) same in
      let now = subst (λ z. is_between first (i + 1) z ≡ true) key (next_between first i) in
      let rest = clean_apart es (subst (λ z. NonePasses {X = Slot} (eqb z) es) (sym key) (passes_from_keys e.0 es (IsDistinct-head eqb e.0 (keys_of es) d))) in
      rw (y, now, row, rest))
      (λ f. rw (f, clean_same first first (i + 1) i e (others_between first i e.0 f)) (ap (λ xs. clean_between first i e ∷ xs) (clean_found es s (IsDistinct-tail eqb e.0 (keys_of es) d) (sym (cond-false _ _ _ f) ∙ h))))
