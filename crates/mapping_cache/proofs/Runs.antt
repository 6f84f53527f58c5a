-- The sectors of a translation page stand together on a list by sector.
use Rattle.std.proofs.Common.{◌≡◌, ◌≢◌, ℕ, zero, suc, ◌+◌, ◌-◌, ◌/◌, ◌<◌, ◌≤◌, ◌∙◌, true, false, eqb, List, [], ◌∷◌, ◌++◌, length, take, drop, get_or}
use Rattle.std.proofs.Common.{Option, Some, None, refl, sym, ap, subst, arith, inl, inr, length-take, length-drop}
use Rattle.std.specs.List.Sorted.{IsNonDecreasingBy}
use Rattle.std.proofs.lemmas.Bool.{eq-eqb, ne_eqb, cases_lt}
use Rattle.std.proofs.lemmas.List.{drop-drop, take_rest}
use Rattle.std.proofs.lemmas.List.Edits.{take-paste}
use Rattle.std.specs.List.{AllWithin, copy_within}
use Rattle.mapping_cache.specs.Mapping.{IsBySector, IsLowestOver, moved_in, without_page}
use Rattle.mapping_cache.proofs.Places.{pages_rise, run_in, run_out}

-- those from place a on and before place b are of page t
pub record IsRunOf (pp t : ℕ) (ms : List (ℕ × ℕ)) (a b : ℕ) : Type 0 where
  pub first_within : a ≤ length ms
  pub end_within : b ≤ length ms
  pub lower : AllWithin (λ e. e.0 / pp < t) ms 0 a
  pub not_lower : AllWithin (λ e. t ≤ e.0 / pp) ms a (length ms)
  pub not_higher : AllWithin (λ e. e.0 / pp ≤ t) ms 0 b
  pub higher : AllWithin (λ e. t < e.0 / pp) ms b (length ms)

module _ (pp t : ℕ) (ms : List (ℕ × ℕ)) (a b : ℕ) (r : IsRunOf pp t ms a b) where
  pub run_rises : a ≤ b
  run_rises = elim (cases_lt b a) [
    | inl less ↦
        let first = r.first_within in
        let low = r.lower b (0, 0) (omega arith) less in
        let high = r.higher b (0, 0) (omega arith) (omega arith) in
        omega arith
    | inr over ↦ over
  ]

  its_end : a + (b - a) ≡ b
  its_end = let up = run_rises in omega arith

  before_it : (k : ℕ) → k < a → eqb ((get_or ms k (0, 0)).0 / pp) t ≡ false
  before_it k l = ne_eqb _ t (λ same. let low = r.lower k (0, 0) (omega arith) l in omega arith)

  in_it : (k : ℕ) → a ≤ k → k < a + (b - a) → eqb ((get_or ms k (0, 0)).0 / pp) t ≡ true
  in_it k l m =
      let at = its_end in
      let end = r.end_within in
      let low = r.not_lower k (0, 0) l (omega arith) in
      let high = r.not_higher k (0, 0) (omega arith) (omega arith) in
      eq-eqb _ t (omega arith)

  past_it : (k : ℕ) → a + (b - a) ≤ k → k < length ms → eqb ((get_or ms k (0, 0)).0 / pp) t ≡ false
  past_it k l m = ne_eqb _ t (λ same. let at = its_end in let high = r.higher k (0, 0) (omega arith) m in omega arith)

  whole : a + (b - a) ≤ length ms
  whole = let at = its_end in let end = r.end_within in omega arith

  pub run_those : moved_in pp t ms ≡ take (b - a) (drop a ms)
  run_those = run_in (λ e. eqb (e.0 / pp) t) ms a (b - a) (0, 0) whole before_it in_it past_it

  pub run_others : without_page pp t ms ≡ take a ms ++ drop b ms
  run_others = run_out (λ e. eqb (e.0 / pp) t) ms a (b - a) (0, 0) whole before_it in_it past_it ∙ ap (λ xs. take a ms ++ xs) (drop-drop (b - a) a ms ∙ ap (λ n. drop n ms) its_end)

  pub run_length : length (moved_in pp t ms) ≡ b - a
  run_length =
      let those = ap length run_those in
      let taken = length-take (b - a) (drop a ms) in
      let left = length-drop a ms in
      let all = whole in
      omega arith

-- the elements from place b on go to place a, and what is behind them goes
pub closed_gap : {X : Type 0} (xs : List X) (a b : ℕ) → a ≤ b → b ≤ length xs → take (a + (length xs - b)) (copy_within xs b (length xs) a) ≡ take a xs ++ drop b xs
closed_gap xs a b l m = take-paste xs a (drop b xs) (length xs - b) (omega arith) (let left = length-drop b xs in omega arith) ∙ ap (λ ys. take a xs ++ ys) (take_rest xs b)

-- there is such a run for each page
point_of : (f : ℕ × ℕ → ℕ) (t : ℕ) (ms : List (ℕ × ℕ)) → IsNonDecreasingBy f ms → (i : ℕ) × (i ≤ length ms) × AllWithin (λ e. f e < t) ms 0 i × AllWithin (λ e. t ≤ f e) ms i (length ms)
point_of f t [] up = (0, omega arith, (λ k d l m. absurd (omega arith)), (λ k d l m. absurd (omega arith)))
point_of f t (e ∷ es) up = elim (cases_lt (f e) t) [
  | inl less ↦
      let rest = point_of f t es (λ i j d l m. up (suc i) (suc j) d (omega arith) (omega arith)) in
      (suc rest.0, (let within = rest.1 in omega arith), below less rest.0 rest.2, from rest.0 rest.3)
  | inr over ↦ (0, omega arith, (λ k d l m. absurd (omega arith)), (λ k d l m. let first = up 0 k d (omega arith) m in omega arith))
]
  where
    below : f e < t → (i : ℕ) → AllWithin (λ x. f x < t) es 0 i → AllWithin (λ x. f x < t) (e ∷ es) 0 (suc i)
    below less i h zero d l m = less
    below less i h (suc k) d l m = h k d (omega arith) (omega arith)

    from : (i : ℕ) → AllWithin (λ x. t ≤ f x) es i (length es) → AllWithin (λ x. t ≤ f x) (e ∷ es) (suc i) (length (e ∷ es))
    from i h zero d l m = absurd (omega arith)
    from i h (suc k) d l m = h k d (omega arith) (omega arith)

pub run_of : (pp t : ℕ) (ms : List (ℕ × ℕ)) → 0 < pp → IsBySector ms → (a : ℕ) × (b : ℕ) × IsRunOf pp t ms a b
run_of pp t ms has s =
    let up = pages_rise pp ms has s in
    let first = point_of (λ e. e.0 / pp) t ms up in
    let past = point_of (λ e. e.0 / pp) (t + 1) ms up in (
      first.0,
      past.0,
      record {
        first_within = first.1;
        end_within = past.1;
        lower = first.2;
        not_lower = first.3;
        not_higher = λ k d l m. (let low = past.2 k d l m in omega arith);
        higher = λ k d l m. (let high = past.3 k d l m in omega arith);
      },
    )

-- ---- where more than `share` sectors are of a page, two of them stand so many places apart

-- the page of the sector at a place
abbrev pub page_at : ℕ → List (ℕ × ℕ) → ℕ → ℕ × ℕ → ℕ
page_at pp ms k d = (get_or ms k d).0 / pp

-- the sector at this place and the one so many places before it are of two pages
abbrev pub IsApart : ℕ → ℕ → List (ℕ × ℕ) → ℕ → Type 0
IsApart pp share ms k = (d : ℕ × ℕ) → page_at pp ms (k - share) d ≢ page_at pp ms k d

module _ (pp share : ℕ) (ms : List (ℕ × ℕ)) (has : 0 < pp) (s : IsBySector ms) where
  last_of : (t : ℕ) → share < length (moved_in pp t ms) → (k : ℕ) × (share ≤ k) × (k < length ms) × ((d : ℕ × ℕ) → page_at pp ms (k - share) d ≡ t) × ((d : ℕ × ℕ) → page_at pp ms k d ≡ t)
  last_of t more =
      let run = run_of pp t ms has s in
      let r = run.2 in
      let many = run_length pp t ms run.0 run.1 r in
      let end = r.end_within in
      let first : run.0 + share - share ≡ run.0 = omega arith in (
        run.0 + share,
        omega arith,
        omega arith,
        (λ d. ap (λ k. page_at pp ms k d) first ∙ (let low = r.not_lower run.0 d (omega arith) (omega arith) in let high = r.not_higher run.0 d (omega arith) (omega arith) in omega arith)),
        (λ d. let low = r.not_lower (run.0 + share) d (omega arith) (omega arith) in let high = r.not_higher (run.0 + share) d (omega arith) (omega arith) in omega arith),
      )

  pub none_over : ((k : ℕ) → share ≤ k → k < length ms → IsApart pp share ms k) → (t : ℕ) → length (moved_in pp t ms) ≤ share
  none_over apart t = elim (cases_lt share (length (moved_in pp t ms))) [
    | inl more ↦ let last = last_of t more in absurd (apart last.0 last.1 last.2 (0, 0) (last.3 (0, 0) ∙ sym (last.4 (0, 0))))
    | inr fewer ↦ fewer
  ]

  over_at : (k t : ℕ) (d : ℕ × ℕ) → share ≤ k → k < length ms → page_at pp ms (k - share) d ≡ t → page_at pp ms k d ≡ t → share < length (moved_in pp t ms)
  over_at k t d l m low_is high_is =
      let run = run_of pp t ms has s in
      let r = run.2 in
      let many = run_length pp t ms run.0 run.1 r in
      let first : run.0 ≤ k - share = elim (cases_lt (k - share) run.0) [
        | inl less ↦ (let low = r.lower (k - share) d (omega arith) less in absurd (omega arith))
        | inr over ↦ over
      ] in
      let past : k < run.1 = elim (cases_lt k run.1) [
        | inl less ↦ less
        | inr over ↦ (let high = r.higher k d over m in absurd (omega arith))
      ] in
      omega arith

  pub lowest_at : (k t : ℕ) (d : ℕ × ℕ) → share ≤ k → k < length ms → page_at pp ms (k - share) d ≡ t → page_at pp ms k d ≡ t → ((j : ℕ) → share ≤ j → j < k → IsApart pp share ms j) → IsLowestOver pp share ms (Some t)
  lowest_at k t d l m low_is high_is apart = record {
    none = λ e. cc;
    over = λ u e. (let same : t ≡ u = cc in subst (λ x. share < length (moved_in pp x ms)) same (over_at k t d l m low_is high_is));
    lowest = λ u e w below. (
        let same : t ≡ u = cc in
        elim (cases_lt share (length (moved_in pp w ms))) [
          | inl more ↦ (
              let last = last_of w more in
              let its = last.4 d in
              let earlier : last.0 < k = elim (cases_lt last.0 k) [
                | inl less ↦ less
                | inr over ↦ (let up = pages_rise pp ms has s k last.0 d over last.2 in absurd (omega arith))
              ] in
              absurd (apart last.0 last.1 earlier d (last.3 d ∙ sym its)))
          | inr fewer ↦ fewer
        ]);
  }
