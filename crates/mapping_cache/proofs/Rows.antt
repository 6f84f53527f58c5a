-- The rows that a translation page lacks, and how they are written into it.
use Rattle.std.proofs.Common.{◌≡◌, ◌≢◌, ℕ, zero, suc, ◌+◌, ◌-◌, ◌*◌, ◌/◌, ◌%◌, ◌<◌, ◌≤◌, ◌∙◌, Bool, true, false, cond, eqb, List, [], ◌∷◌, ◌++◌}
use Rattle.std.proofs.Common.{Option, Some, None, unwrap_or, is_some, refl, sym, ap, subst, ◌⊎◌, inl, inr, arith}
use Rattle.std.specs.List.{IsDistinct, AllByRecursion, cons_option}
use Rattle.std.specs.Option.{ForSome, option_map, option_and_then}
use Rattle.std.specs.Map.{keys_of, lookup}
use Rattle.std.proofs.lemmas.Bool.{eqb-true, eqb-false, eq-eqb, ne_eqb, cond-true, cond-false}
use Rattle.std.proofs.lemmas.Nat.{mod-mul-add, div-add-mod'}
use Rattle.std.proofs.Math.Nat.{mul-le-mul}
use Rattle.std.proofs.lemmas.Map.{NonePasses, lookup-none, none_passes_from_lookup}
use Rattle.std.proofs.lemmas.Map.Entries.{lookup-filter-keys}
use Rattle.std.proofs.lemmas.Map.Keys.{IsDistinct-cons, IsDistinct-head, IsDistinct-tail}
use Rattle.page_layout.proofs.GeometryLemmas.{some_entries}
use Rattle.page_layout.specs.declared.geometry.Geometry.{Geometry}
use Rattle.page_layout.specs.Geometry.{row_count}
use Rattle.page_layout.specs.Word.{IsRow}
use Rattle.mapping_cache.specs.declared.slot.Slot.{Slot}
use Rattle.mapping_cache.specs.Mapping.{MappingState, IsMapping, per_page, slot_of, moved_row, pending_by, dirty_row, pending, dirty_from, moved_in}
use Rattle.mapping_cache.specs.Mapping.{some_rows, lacking, AreRowsOf, AreLacking}
use Rattle.mapping_cache.proofs.Entries.{by_test, eqb_self}
use Rattle.mapping_cache.proofs.Places.{IsDistinct-by_sector, IsBySector-filter}
use Rattle.mapping_cache.proofs.Clean.{passes_from_keys, of_page_at, in_page_at}
use Rattle.mapping_cache.proofs.Steps.{pending-at, known-pending}

-- ---- one row goes into its entry: g has the entries after f
pub row_written : (per_page t s : ℕ) (row : Option ℕ) (left : List (ℕ × Option ℕ)) (f g : ℕ → Option ℕ) → AreRowsOf per_page t ((s, row) ∷ left)
    → g (s % per_page) ≡ row → ((k : ℕ) → k ≢ s % per_page → g k ≡ f k) → (i : ℕ) → i < per_page
    → unwrap_or (lookup (eqb (t * per_page + i)) left) (g i) ≡ unwrap_or (lookup (eqb (t * per_page + i)) ((s, row) ∷ left)) (f i)
row_written per_page t s row left f g rows here others i within =
    by_test (eqb (t * per_page + i) s)
    (λ y.
    let same = eqb-true (t * per_page + i) s y in
    let place : i ≡ s % per_page = sym (mod-mul-add t per_page i within) ∙ ap (λ n. n % per_page) same in
    let gone : lookup (eqb s) left ≡ None = lookup-none (eqb s) left (passes_from_keys s left (IsDistinct-head eqb s (keys_of left) rows.0)) in
    rw (y, same, gone) (ap g place ∙ here))
    (λ n.
    let apart = eqb-false (t * per_page + i) s n in
    let whole : t * per_page + s % per_page ≡ s = subst (λ q. q * per_page + s % per_page ≡ s) rows.1.0.0 (div-add-mod' s per_page) in
    rw (n, others i (λ e. apart (ap (λ r. t * per_page + r) e ∙ whole))))

pub rows_left : (per_page t : ℕ) (e : ℕ × Option ℕ) (left : List (ℕ × Option ℕ)) → AreRowsOf per_page t (e ∷ left) → AreRowsOf per_page t left
rows_left per_page t e left rows = (IsDistinct-tail eqb e.0 (keys_of left) rows.0, rows.1.1)

-- ---- two lists of entries, one after the other
module _ {X : Type 0} where
  lookup-append : (test : ℕ → Bool) (xs ys : List (ℕ × X)) (o : Option X) → lookup test xs ≡ o → lookup test (xs ++ ys) ≡ cond (is_some o) o (lookup test ys)
  lookup-append test [] ys o h = rw (← h)
  lookup-append test (x ∷ xs) ys o h = by_test (test x.0)
      (λ y. let found : Some x.1 ≡ o = sym (cond-true _ _ _ y) ∙ h in cond-true _ _ _ y ∙ rw (← found))
      (λ n. cond-false _ _ _ n ∙ lookup-append test xs ys o (sym (cond-false _ _ _ n) ∙ h))

  All-append : (P : ℕ × X → Type 0) (xs ys : List (ℕ × X)) → AllByRecursion P xs → AllByRecursion P ys → AllByRecursion P (xs ++ ys)
  All-append P [] ys h k = k
  All-append P (x ∷ xs) ys h k = (h.0, All-append P xs ys h.1 k)

  keys-append : (P : ℕ → Type 0) (xs ys : List (ℕ × X)) → AllByRecursion P (keys_of xs) → AllByRecursion P (keys_of ys) → AllByRecursion P (keys_of (xs ++ ys))
  keys-append P [] ys h k = k
  keys-append P (x ∷ xs) ys h k = (h.0, keys-append P xs ys h.1 k)

  absent_keys : (k : ℕ) (es : List (ℕ × X)) → NonePasses (eqb k) es → AllByRecursion (λ y. eqb k y ≡ false) (keys_of es)
  absent_keys k [] h = tt
  absent_keys k (e ∷ es) h = (h.0, absent_keys k es h.1)

  -- with no key in both
  IsDistinct-append : (xs ys : List (ℕ × X)) → IsDistinct eqb (keys_of xs) → IsDistinct eqb (keys_of ys) → AllByRecursion (λ e. lookup (eqb e.0) ys ≡ None) xs → IsDistinct eqb (keys_of (xs ++ ys))
  IsDistinct-append [] ys d e apart = e
  IsDistinct-append (x ∷ xs) ys d e apart =
      IsDistinct-cons eqb x.0 _
      (keys-append _ xs ys (IsDistinct-head eqb x.0 (keys_of xs) d) (absent_keys x.0 ys (none_passes_from_lookup (eqb x.0) ys apart.0)))
      (IsDistinct-append xs ys (IsDistinct-tail eqb x.0 (keys_of xs) d) e apart.1)

  keys-each : (P : ℕ → Type 0) (es : List (ℕ × X)) → AllByRecursion (λ e. P e.0) es → AllByRecursion P (keys_of es)
  keys-each P [] h = tt
  keys-each P (e ∷ es) h = (h.0, keys-each P es h.1)

  -- what a look-up says of every entry
  each_from_lookup : (Q : ℕ → X → Type 0) (es : List (ℕ × X)) → IsDistinct eqb (keys_of es) → ((n : ℕ) (s : X) → lookup (eqb n) es ≡ Some s → Q n s) → AllByRecursion (λ e. Q e.0 e.1) es
  each_from_lookup Q [] d h = tt
  each_from_lookup Q (e ∷ es) d h = (
    h e.0 e.1 (cond-true _ _ _ (eqb_self e.0)),
    each_from_lookup Q es (IsDistinct-tail eqb e.0 (keys_of es) d) (λ n s found. by_test (eqb n e.0)
        (λ y.
        let gone = lookup-none (eqb e.0) es (passes_from_keys e.0 es (IsDistinct-head eqb e.0 (keys_of es) d)) in
        let here = rw (eqb-true n e.0 y) at found in cc)
        (λ f. h n s (cond-false _ _ _ f ∙ found))),
  )

-- ---- the dirty ones of some sectors
module _ (es : List (ℕ × Slot)) where
  each-dirty_from : (Q : ℕ × Option ℕ → Type 0) (first count : ℕ) → ((k : ℕ) (row : Option ℕ) → first ≤ k → k < first + count → option_and_then dirty_row (lookup (eqb k) es) ≡ Some row → Q (k, row)) → AllByRecursion Q (dirty_from es first count)
  each-dirty_from Q first zero h = tt
  each-dirty_from Q first (suc count) h =
      let more = each-dirty_from Q (first + 1) count (λ k row l m e. h k row (omega arith) (omega arith) e) in
      at more (option_and_then dirty_row (lookup (eqb first) es)) refl
    where
      at : AllByRecursion Q (dirty_from es (first + 1) count) → (o : Option (Option ℕ)) → option_and_then dirty_row (lookup (eqb first) es) ≡ o → AllByRecursion Q (cons_option (option_map (λ row. (first, row)) o) (dirty_from es (first + 1) count))
      at more None e = more
      at more (Some row) e = (h first row (omega arith) (omega arith) e, more)

  -- the first of them is dirty, or is passed over
  pub dirty_from_some : (first end : ℕ) (row : Option ℕ) → first < end → option_and_then dirty_row (lookup (eqb first) es) ≡ Some row → dirty_from es first (end - first) ≡ (first, row) ∷ dirty_from es (first + 1) (end - (first + 1))
  dirty_from_some first end row below found =
      let count : end - first ≡ suc (end - (first + 1)) = omega arith in
      ap (dirty_from es first) count ∙ ap (λ z. cons_option (option_map (λ r. (first, r)) z) (dirty_from es (first + 1) (end - (first + 1)))) found

  pub dirty_from_none : (first end : ℕ) → first < end → option_and_then dirty_row (lookup (eqb first) es) ≡ None → dirty_from es (first + 1) (end - (first + 1)) ≡ dirty_from es first (end - first)
  dirty_from_none first end below none =
      let count : end - first ≡ suc (end - (first + 1)) = omega arith in
      sym (ap (dirty_from es first) count ∙ ap (λ z. cons_option (option_map (λ r. (first, r)) z) (dirty_from es (first + 1) (end - (first + 1)))) none)

  keys-dirty_from : (P : ℕ → Type 0) (first count : ℕ) → ((k : ℕ) → first ≤ k → k < first + count → P k) → AllByRecursion P (keys_of (dirty_from es first count))
  keys-dirty_from P first count h = keys-each P (dirty_from es first count) (each-dirty_from (λ e. P e.0) first count (λ k row l m e. h k l m))

  IsDistinct-dirty_from : (first count : ℕ) → IsDistinct eqb (keys_of (dirty_from es first count))
  unfolding IsDistinct
  IsDistinct-dirty_from first zero = tt
  IsDistinct-dirty_from first (suc count) = at (IsDistinct-dirty_from (first + 1) count) (option_and_then dirty_row (lookup (eqb first) es))
    where
      at : IsDistinct eqb (keys_of (dirty_from es (first + 1) count)) → (o : Option (Option ℕ)) → IsDistinct eqb (keys_of (cons_option (option_map (λ row. (first, row)) o) (dirty_from es (first + 1) count)))
      at more None = more
      at more (Some row) = IsDistinct-cons eqb first _ (keys-dirty_from (λ y. eqb first y ≡ false) (first + 1) count (λ k l m. ne_eqb first k (λ e. omega arith))) more

  lookup-dirty_from_outside : (n first count : ℕ) → (n < first) ⊎ (first + count ≤ n) → lookup (eqb n) (dirty_from es first count) ≡ None
  lookup-dirty_from_outside n first count out =
      lookup-none (eqb n) (dirty_from es first count) (passes_from_keys n (dirty_from es first count) (keys-dirty_from (λ y. eqb n y ≡ false) first count (λ k l m. ne_eqb n k (λ e. elim out [ inl a ↦ omega arith | inr b ↦ omega arith ]))))

  lookup-dirty_from : (n first count : ℕ) → first ≤ n → n < first + count → lookup (eqb n) (dirty_from es first count) ≡ option_and_then dirty_row (lookup (eqb n) es)
  lookup-dirty_from n first zero l m = absurd (omega arith)
  lookup-dirty_from n first (suc count) l m = by_test (eqb n first)
      (λ y.
      let same = eqb-true n first y in
      let gone = lookup-dirty_from_outside n (first + 1) count (inl (omega arith)) in
      here same gone (option_and_then dirty_row (lookup (eqb first) es)) refl)
      (λ f.
      let ne = eqb-false n first f in
      let ih = lookup-dirty_from n (first + 1) count (omega arith) (omega arith) in
      away f ih (option_and_then dirty_row (lookup (eqb first) es)))
    where
      here : n ≡ first → lookup (eqb n) (dirty_from es (first + 1) count) ≡ None → (o : Option (Option ℕ))
          → option_and_then dirty_row (lookup (eqb first) es) ≡ o
          → lookup (eqb n) (cons_option (option_map (λ row. (first, row)) o) (dirty_from es (first + 1) count)) ≡ option_and_then dirty_row
          (lookup (eqb n) es)
      here same gone None e = gone ∙ sym (ap (λ k. option_and_then dirty_row (lookup (eqb k) es)) same ∙ e)
      here same gone (Some row) e = cond-true _ _ _ (eq-eqb n first same) ∙ sym (ap (λ k. option_and_then dirty_row (lookup (eqb k) es)) same ∙ e)

      away : eqb n first ≡ false → lookup (eqb n) (dirty_from es (first + 1) count) ≡ option_and_then dirty_row (lookup (eqb n) es)
          → (o : Option (Option ℕ))
          → lookup (eqb n) (cons_option (option_map (λ row. (first, row)) o) (dirty_from es (first + 1) count)) ≡ option_and_then dirty_row
          (lookup (eqb n) es)
      away f ih None = ih
      away f ih (Some row) = cond-false _ _ _ f ∙ ih

-- ---- the moved sectors of a page
keys-some_rows : (ms : List (ℕ × ℕ)) → keys_of (some_rows ms) ≡ keys_of ms
keys-some_rows [] = refl
keys-some_rows (e ∷ ms) = ap (λ ks. e.0 ∷ ks) (keys-some_rows ms)

lookup-some_rows : (test : ℕ → Bool) (ms : List (ℕ × ℕ)) → lookup test (some_rows ms) ≡ option_map (λ r. Some r) (lookup test ms)
lookup-some_rows test [] = refl
lookup-some_rows test (e ∷ ms) = by_test (test e.0) (λ y. rw y) (λ n. rw n (lookup-some_rows test ms))

each-moved_in : (Q : ℕ → ℕ → Type 0) (per_page t : ℕ) (ms : List (ℕ × ℕ)) → AllByRecursion (λ e. Q e.0 e.1) ms → AllByRecursion (λ e. (e.0 / per_page ≡ t) × Q e.0 e.1) (moved_in per_page t ms)
each-moved_in Q per_page t [] h = tt
each-moved_in Q per_page t (e ∷ ms) h = by_test (eqb (e.0 / per_page) t)
    (λ y. rw y ((eqb-true _ _ y, h.0), each-moved_in Q per_page t ms h.1))
    (λ n. rw n (each-moved_in Q per_page t ms h.1))

each-some_rows : (Q : ℕ × Option ℕ → Type 0) (ms : List (ℕ × ℕ)) → AllByRecursion (λ e. Q (e.0, Some e.1)) ms → AllByRecursion Q (some_rows ms)
each-some_rows Q [] h = tt
each-some_rows Q (e ∷ ms) h = (h.0, each-some_rows Q ms h.1)

All-from : {X : Type 0} (P Q : X → Type 0) (xs : List X) → ((x : X) → P x → Q x) → AllByRecursion P xs → AllByRecursion Q xs
All-from P Q [] f h = tt
All-from P Q (x ∷ xs) f h = (f x h.0, All-from P Q xs f h.1)

-- with no moved sector left, the dirty ones come
pub past_moved : (ms ms' : List (ℕ × ℕ)) (d d' d'' : List (ℕ × Option ℕ)) (e : ℕ × Option ℕ) → ms ≡ [] → ms' ≡ [] → d'' ≡ d → d'' ≡ e ∷ d' → some_rows ms ++ d ≡ e ∷ (some_rows ms' ++ d')
past_moved ms ms' d d' d'' e none none' left found = rw (none, none') (sym left ∙ found)

-- a row of the die has a word
pub row_has_word : (g : Geometry) (row : Option ℕ) → ForSome row (λ r. r < row_count g) → IsRow row
row_has_word g row within r e =
    let below : r < row_count g = within r e in
    let most : g.blocks * g.pages ≤ 4096 * 256 = mul-le-mul g.limits.block_count.most g.limits.page_count.most in
    omega (arith, below, most)

-- ---- what a mapping offers for a page
module _ (m : MappingState) (t : ℕ) (v : IsMapping m) where
  entry_of : (n : ℕ) (row : Option ℕ) → pending m n ≡ Some row → IsRow row
  entry_of n row h = row_has_word m.geometry row (v.known_in n row (known-pending m n row h)).row_in

  unmoved_slot : (n : ℕ) (row : Option ℕ) → option_and_then dirty_row (slot_of m n) ≡ Some row → moved_row m n ≡ None
  unmoved_slot n row h = at (moved_row m n) refl
    where
      at : (o : Option ℕ) → moved_row m n ≡ o → o ≡ None
      at None e = refl
      at (Some r) e = let none = v.apart n r e in let no = rw none at h in cc

  dirty_pends : (n : ℕ) (row : Option ℕ) → option_and_then dirty_row (slot_of m n) ≡ Some row → pending m n ≡ Some row
  dirty_pends n row h = pending-at m n (slot_of m n) None refl (unmoved_slot n row h) ∙ h

  moved_pends : (n r : ℕ) → moved_row m n ≡ Some r → pending m n ≡ Some (Some r)
  moved_pends n r h = pending-at m n (slot_of m n) (Some r) refl h

  moved_rows : AllByRecursion (λ e. (e.0 / per_page m ≡ t) × ((moved_row m e.0 ≡ Some e.1))) (moved_in (per_page m) t m.moved)
  moved_rows = each-moved_in (λ n r. moved_row m n ≡ Some r) (per_page m) t m.moved (each_from_lookup (λ n r. moved_row m n ≡ Some r) m.moved (IsDistinct-by_sector m.moved v.by_sector) (λ n r h. h))

  in_page : (n : ℕ) → n / per_page m ≡ t → (t * per_page m ≤ n) × (n < t * per_page m + per_page m)
  in_page n e = in_page_at (per_page m) t n (some_entries m.geometry) e

  -- a moved sector isn't cached
  not_dirty : (n r : ℕ) → n / per_page m ≡ t → moved_row m n ≡ Some r → lookup (eqb n) (dirty_from m.cached (t * per_page m) (per_page m)) ≡ None
  not_dirty n r of h = lookup-dirty_from m.cached n (t * per_page m) (per_page m) (in_page n of).0 (in_page n of).1 ∙ ap (option_and_then dirty_row) (v.apart n r h)

  pub AreRowsOf-lacking : AreRowsOf (per_page m) t (lacking m t)
  AreRowsOf-lacking = (
    IsDistinct-append (some_rows (moved_in (per_page m) t m.moved)) (dirty_from m.cached (t * per_page m) (per_page m))
        (rw (keys-some_rows (moved_in (per_page m) t m.moved)) (IsDistinct-by_sector _ (IsBySector-filter _ m.moved v.by_sector)))
        (IsDistinct-dirty_from m.cached (t * per_page m) (per_page m))
        (each-some_rows _ (moved_in (per_page m) t m.moved) (All-from _ _ (moved_in (per_page m) t m.moved) (λ e h. not_dirty e.0 e.1 h.0 h.1) moved_rows)),
    All-append _ (some_rows (moved_in (per_page m) t m.moved)) (dirty_from m.cached (t * per_page m) (per_page m))
        (each-some_rows _ (moved_in (per_page m) t m.moved) (All-from _ _ (moved_in (per_page m) t m.moved) (λ e h. (h.0, entry_of e.0 (Some e.1) (moved_pends e.0 e.1 h.1))) moved_rows))
        (each-dirty_from m.cached _ (t * per_page m) (per_page m) (λ k row l h e. (of_page_at (per_page m) t k l h, entry_of k row (dirty_pends k row e)))),
  )

  either : (a : Option Slot) (b : Option ℕ) → cond (is_some (option_map (λ r. Some r) b)) (option_map (λ r. Some r) b) (option_and_then dirty_row a) ≡ pending_by a b
  either a None = refl
  either a (Some r) = refl

  pub AreLacking-lacking : AreLacking m t (lacking m t)
  AreLacking-lacking = record {
    rows = AreRowsOf-lacking;
    each = λ n of.
        let page : eqb (n / per_page m) t ≡ true = eq-eqb _ _ of in
        let moved : lookup (eqb n) (some_rows (moved_in (per_page m) t m.moved)) ≡ option_map (λ r. Some r) (moved_row m n) = lookup-some_rows (eqb n)
        (moved_in (per_page m) t m.moved) ∙ ap (option_map (λ r. Some r))
        (lookup-filter-keys (eqb n) (λ x. eqb (x / per_page m) t) true (λ x e. rw (← eqb-true n x e) page) m.moved) in
        let dirty = lookup-dirty_from m.cached n (t * per_page m) (per_page m) (in_page n of).0 (in_page n of).1 in
        lookup-append (eqb n) (some_rows (moved_in (per_page m) t m.moved)) (dirty_from m.cached (t * per_page m) (per_page m)) _ moved ∙ rw dirty (either (slot_of m n) (moved_row m n)) ∙ sym (pending-at m n (slot_of m n) (moved_row m n) refl refl);
  }
