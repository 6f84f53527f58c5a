-- Where more sectors are moved than may wait, more than the share of them are of one translation page.
use Rattle.std.proofs.Common.{◌≡◌, ◌≢◌, inl, inr, ℕ, ◌+◌, ◌*◌, ◌/◌, ◌<◌, ◌≤◌, ◌==◌, ◌&&◌, ◌||◌, Bool, true, false, List, [], ◌∷◌, length, count_by, Option, Some, None, MatchOption, refl, ap, sym, ◌∙◌, subst, arith}
use Rattle.std.specs.List.{AllByRecursion}
use Rattle.std.specs.Map.{keys_of, lookup}
use Rattle.std.proofs.lemmas.Bool.{cases_eq, cases_lt, eq-eqb, ne_eqb, lt-ltb, le-ltb}
use Rattle.page_layout.specs.declared.geometry.Geometry.{Geometry}
use Rattle.page_layout.specs.Geometry.{translation_pages, entries}
use Rattle.page_layout.proofs.GeometryLemmas.{sector_entry}
use Rattle.budget.proofs.CopyLemmas.{some_over}
use Rattle.mapping_cache.specs.Mapping.{MappingState, IsBySector, IsEntryOf, IsLowestOver, per_page, moved_in, known, known_by, moved_row, slot_of}
use Rattle.allocation.proofs.CountLemmas.{count_has}
use Rattle.collection.specs.State.{Ram}
use Rattle.collection.specs.Safe.{IsRam}
use Rattle.collection.specs.Collect.{is_over, is_translation_marked, is_due, due_count, waiting, IsLowestDue, OwesNone}
use Rattle.collection.proofs.Dues.{moved_count, length_keys}

-- ---- each moved sector is of a translation page of the die

-- each sector of a list by sector has its row there
module _ (P : ℕ → Type 0) where
  each_key : (ms : List (ℕ × ℕ)) → IsBySector ms → ((n r : ℕ) → lookup (λ k. n == k) ms ≡ Some r → P n) → AllByRecursion P (keys_of ms)
  each_key [] s h = tt
  each_key (e ∷ es) s h = (h e.0 e.1 (here e es), each_key es s.1 (λ n r is. h n r (there n r is)))
    where
      here : (e : ℕ × ℕ) (es : List (ℕ × ℕ)) → lookup (λ k. e.0 == k) (e ∷ es) ≡ Some e.1
      here e es = let same : (e.0 == e.0) ≡ true = eq-eqb e.0 e.0 refl in rw same refl

      above : (n r : ℕ) (l : List (ℕ × ℕ)) → AllByRecursion (λ f. e.0 < f.0) l → lookup (λ k. n == k) l ≡ Some r → e.0 < n
      above n r [] all is = (let no : ⊥ = cc in absurd no)
      above n r (f ∷ l) all is = elim (cases_eq n f.0) [
        | inl same ↦ (let low = all.0 in omega arith)
        | inr ne ↦ (let skip : (n == f.0) ≡ false = ne_eqb n f.0 ne in let rest : lookup (λ k. n == k) l ≡ Some r = rw skip at is in above n r l all.1 rest)
      ]

      there : (n r : ℕ) → lookup (λ k. n == k) es ≡ Some r → lookup (λ k. n == k) (e ∷ es) ≡ Some r
      there n r is = let low = above n r es s.0 is in let skip : (n == e.0) ≡ false = ne_eqb n e.0 (λ same. absurd (omega arith)) in rw skip is

moved_known : (m : MappingState) (n r : ℕ) → moved_row m n ≡ Some r → known m n ≡ Some (Some r)
unfolding known
moved_known m n r is = ap (known_by (slot_of m n)) is

moved_within : (r : Ram) → IsRam r → AllByRecursion (λ n. n / per_page r.mapping < translation_pages r.geometry) (keys_of r.mapping.moved)
moved_within r s = each_key (λ n. n / per_page r.mapping < translation_pages r.geometry) r.mapping.moved s.mapping.by_sector (λ n row is.
    let entry : IsEntryOf r.mapping.geometry n (Some row) = s.mapping.known_in n (Some row) (moved_known r.mapping n row is) in
    let lt = sector_entry r.mapping.geometry n entry.sector in
    rw (← s.mapping_of) lt)

-- ---- one has more than its share

module _ (r : Ram) (s : IsRam r) (many : waiting r < length r.mapping.moved) where
  pub over_page : (t : ℕ) × (t < translation_pages r.geometry) × (r.mapping.share < length (moved_in (per_page r.mapping) t r.mapping.moved))
  over_page =
      let found = some_over (per_page r.mapping) (translation_pages r.geometry) r.mapping.share (keys_of r.mapping.moved) (moved_within r s) (let all = length_keys r.mapping.moved in omega arith) in
      let over = found.1.over in
      (found.0, found.1.within, (let count = moved_count (per_page r.mapping) found.0 r.mapping.moved in omega arith))

  pub some_due : (flushing : Bool) → 0 < due_count flushing r
  some_due flushing =
      let page = over_page in
      let over : is_over r.mapping page.0 ≡ true = lt-ltb _ _ page.2 in
      let due : is_due flushing r page.0 ≡ true = ap (λ b. b || (flushing && is_translation_marked r page.0)) over in
      let lt = page.1 in
      count_has (is_due flushing r) page.0 0 (translation_pages r.geometry) due (omega arith) (omega arith)

  -- the lowest of those that have more is the one that is written back
  pub lowest_over : (o : Option ℕ) (t : ℕ) → IsLowestOver (per_page r.mapping) r.mapping.share r.mapping.moved o → o ≡ Some t → IsLowestDue false r t
  lowest_over o t low is =
      let page = over_page in
      let lt = page.1 in
      let more = page.2 in
      record {
        within = elim (cases_lt page.0 t) [
          | inl less ↦ (let few = low.lowest t is page.0 less in absurd (omega arith))
          | inr at_least ↦ omega arith
        ];
        due = rw (lt-ltb _ _ (low.over t is)) refl;
        lowest = λ k less. rw (le-ltb _ _ (low.lowest t is k less)) refl;
        many = λ off. many;
      }

  pub none_over : (o : Option ℕ) → IsLowestOver (per_page r.mapping) r.mapping.share r.mapping.moved o → o ≢ None
  none_over o low none = let page = over_page in let more = page.2 in let few = low.none none page.0 in absurd (omega arith)

pub over_match : (flushing : Bool) (r : Ram) (o : Option ℕ) → flushing ≡ false → IsRam r → waiting r < length r.mapping.moved → IsLowestOver (per_page r.mapping) r.mapping.share r.mapping.moved o
    → MatchOption o (OwesNone flushing r) (IsLowestDue flushing r)
over_match flushing r None off s many low = absurd (none_over r s many None low refl)
over_match flushing r (Some t) off s many low = (let P : Bool → Type 0 = λ b. IsLowestDue b r t in subst P (sym off) (lowest_over r s many (Some t) t low refl))

-- where no translation page is due in a flush, no more are moved than may wait
pub none_due : (r : Ram) → IsRam r → ((t : ℕ) → t < translation_pages r.geometry → is_due true r t ≡ false) → OwesNone true r
none_due r s none = record {
  few = elim (cases_lt (waiting r) (length r.mapping.moved)) [
    | inl many ↦
        let page = over_page r s many in
        let over : is_over r.mapping page.0 ≡ true = lt-ltb _ _ page.2 in
        let due : is_due true r page.0 ≡ true = ap (λ b. b || is_translation_marked r page.0) over in
        let no : true ≡ false = sym due ∙ none page.0 page.1 in
        let never : ⊥ = cc in absurd never
    | inr few ↦ few
  ];
  unmarked = λ on t lt. right_false (is_over r.mapping t) (is_translation_marked r t) (none t lt);
}
  where
    right_false : (a b : Bool) → (a || b) ≡ false → b ≡ false
    right_false true b e = (let no : ⊥ = cc in absurd no)
    right_false false b e = e
