-- Sound pages that share a sequence are neighbours once the pairs are sorted.
use Rattle.std.proofs.Common.{◌≡◌, ◌≢◌, ℕ, zero, suc, ◌+◌, ◌-◌, ◌<◌, ◌≤◌, ◌&&◌, eqb, eq-eqb, List, [], ◌∷◌, ◌++◌, length, get_or, Option, Some, None}
use Rattle.std.proofs.Common.{refl, sym, ap, subst, ◌∙◌, arith, inl, inr, All}
use Rattle.std.specs.Prelude.{Contains, IfSome, IfNone, IsPermutation, IsSorted, Bool, true, false}
use Rattle.std.specs.Ordering.{ordering_then, is_lt, nat_cmp}
use Rattle.std.specs.Cmp.{nat_cmp_is}
use Rattle.std.proofs.lemmas.Map.Keys.{IsDistinct-IsPermutation}
use Rattle.std.specs.declared.cmp.Ordering.TheVariants.{Less, Equal}
use Rattle.std.specs.Prelude.{AllPairs}
use Rattle.std.specs.Bool.{Decides, one_answer}
use Rattle.std.proofs.lemmas.List.Quantifiers.{all_pairs_push}
use Rattle.std.proofs.lemmas.Map.Made.{AllPairs-from_IsDistinct, IsDistinct-from_AllPairs}
use Rattle.std.proofs.lemmas.Bool.{cases_order, cases_lt, eqb-true}
use Rattle.std.proofs.lemmas.List.Sorted.{Contains-permutation, IsPermutation-sym, All-permutation}
use Rattle.std.proofs.lemmas.List.Elements.{All-append, All-nil, Contains-append_left, Contains-append_right, Contains-get_or}
use Rattle.std.proofs.lemmas.List.{get_or_default}
use Rattle.page_layout.specs.declared.geometry.Geometry.{Geometry}
use Rattle.page_layout.specs.declared.record.Record.{Record}
use Rattle.page_layout.specs.Geometry.{row_count}
use Rattle.page_layout.specs.Page.{Image}
use Rattle.page_layout.specs.OneArray.{AreDistinct, AreBelow}
use Rattle.page_layout.specs.Array.{marks}
use Rattle.image_check.specs.Survey.{pair_of, pairs_below}
use Rattle.image_check.proofs.PartLemmas.{in_rows, next_holds, next_needs}
use Rattle.image_check.specs.Surveyed.{SurveysPairs}
use Rattle.image_check.specs.Pairs.{IsInOrder, AreInOrder, DifferBelow, IsLowestBelow}
use Rattle.image_check.specs.Refused.{RepeatsSequence, IsFirstRepeated, IsWrong, Sequences}
use Rattle.image_check.specs.declared.refusal.Refusal.TheVariants.{SequenceRepeated}
use Rattle.certificate.specs.Claim.{Claim}

contains_one : (row : ℕ) (r : Record) (o : Option Record) → o ≡ Some r → Contains (pair_of row o) (r.sequence, row)
contains_one row r None e = absurd cc
contains_one row r (Some x) e = let same : x ≡ r = cc in (0, omega arith, ap (λ (y : Record). (y.sequence, row)) same)

-- each sound page among the first rows has its pair
pub has_pair : (ms : List (Option Record)) (rows row : ℕ) (r : Record) → row < rows → get_or ms row None ≡ Some r → Contains (pairs_below ms rows) (r.sequence, row)
unfolding pairs_below
has_pair ms zero row r l e = absurd (omega arith)
has_pair ms (suc last) row r l e = elim (cases_order row last) [
  | inl same ↦
      let at : get_or ms last None ≡ Some r = subst (λ k. get_or ms k None ≡ Some r) same e in
      let here : Contains (pair_of last (get_or ms last None)) (r.sequence, last) = contains_one last r (get_or ms last None) at in
      Contains-append_right (pairs_below ms last) (pair_of last (get_or ms last None)) (r.sequence, row) (subst (λ (k : ℕ). Contains (pair_of last (get_or ms last None)) (r.sequence, k)) (sym same) here)
  | inr (inl below) ↦ Contains-append_left (pairs_below ms last) (pair_of last (get_or ms last None)) (r.sequence, row) (has_pair ms last row r below e)
  | inr (inr above) ↦ absurd (omega arith)
]

-- ---- the order of the pairs

order_step : (p q r : ℕ × ℕ) → IsInOrder p q → IsInOrder q r → IsInOrder p r
order_step p q r (inl a) (inl b) = inl (omega arith)
order_step p q r (inl a) (inr b) = inl (let e = b.0 in omega arith)
order_step p q r (inr a) (inl b) = inl (let e = a.0 in omega arith)
order_step p q r (inr a) (inr b) = inr (a.0 ∙ b.0, let x = a.1 in let y = b.1 in omega arith)

-- the order that a sort by both parts leaves between neighbours
pub neighbours_ordered : (p q : ℕ × ℕ) → is_lt (ordering_then (nat_cmp q.0 p.0) (nat_cmp q.1 p.1)) ≡ false → IsInOrder p q
neighbours_ordered p q e = elim (cases_order p.0 q.0) [
  | inl same ↦ elim (cases_lt q.1 p.1) [
    | inr le ↦ inr (same, le)
    | inl gt ↦ absurd (let e0 : Equal ≡ nat_cmp q.0 p.0 = nat_cmp_is q.0 p.0 Equal (sym same) in let e1 : Less ≡ nat_cmp q.1 p.1 = nat_cmp_is q.1 p.1 Less gt in let t = rw (← e0, ← e1) at e in cc)
  ]
  | inr (inl below) ↦ inl below
  | inr (inr above) ↦ absurd (let e0 : Less ≡ nat_cmp q.0 p.0 = nat_cmp_is q.0 p.0 Less above in let t = rw (← e0) at e in cc)
]

ordered_from : (xs : List (ℕ × ℕ)) → ((k : ℕ) → k + 1 < length xs → IsInOrder (get_or xs k (0, 0)) (get_or xs (k + 1) (0, 0))) → (i j d : ℕ) → j ≡ i + d → j < length xs → IsInOrder (get_or xs i (0, 0)) (get_or xs j (0, 0))
ordered_from xs h i j zero e l = let same : j ≡ i = omega arith in subst (λ k. IsInOrder (get_or xs i (0, 0)) (get_or xs k (0, 0))) (sym same) (inr (refl, omega arith))
ordered_from xs h i j (suc d) e l =
    let m : ℕ = i + d in
    let next : m + 1 ≡ j = omega arith in
    let before = ordered_from xs h i m d refl (omega arith) in
    let step : IsInOrder (get_or xs m (0, 0)) (get_or xs j (0, 0)) = subst (λ k. IsInOrder (get_or xs m (0, 0)) (get_or xs k (0, 0))) next (h m (omega arith)) in
    order_step (get_or xs i (0, 0)) (get_or xs m (0, 0)) (get_or xs j (0, 0)) before step

pub in_order : (xs : List (ℕ × ℕ)) → IsSorted (λ (x y : ℕ × ℕ). ordering_then (nat_cmp x.0 y.0) (nat_cmp x.1 y.1)) xs → AreInOrder xs
in_order xs sorted = record {
  ordered = λ i j le l. ordered_from xs (λ k m. neighbours_ordered (get_or xs k (0, 0)) (get_or xs (k + 1) (0, 0)) (sorted k (0, 0) (omega arith) m)) i j (j - i) (omega arith) l;
}

-- two places of a sorted list share a sequence, so the later one shares it with the place before it
neighbours : (xs : List (ℕ × ℕ)) (i j k : ℕ) → AreInOrder xs → i ≤ k → j ≡ k + 1 → j < length xs → (get_or xs i (0, 0)).0 ≡ (get_or xs j (0, 0)).0 → (get_or xs k (0, 0)).0 ≡ (get_or xs (k + 1) (0, 0)).0
neighbours xs i j k sorted le next within same =
    let up = below_of (get_or xs i (0, 0)) (get_or xs k (0, 0)) (sorted.ordered i k le (omega arith)) in
    let over = below_of (get_or xs k (0, 0)) (get_or xs (k + 1) (0, 0)) (sorted.ordered k (k + 1) (omega arith) (omega arith)) in
    let last : (get_or xs i (0, 0)).0 ≡ (get_or xs (k + 1) (0, 0)).0 = subst (λ n. (get_or xs i (0, 0)).0 ≡ (get_or xs n (0, 0)).0) next same in
    omega arith
  where
    below_of : (p q : ℕ × ℕ) → IsInOrder p q → p.0 ≤ q.0
    below_of p q (inl a) = omega arith
    below_of p q (inr a) = let e = a.0 in omega arith

-- where a sound page's pair stands among the sorted ones
pub record StandsAt (pairs : List (ℕ × ℕ)) (sequence row : ℕ) : Type 0 where
  pub place : ℕ
  pub within : place < length pairs
  pub is : get_or pairs place (0, 0) ≡ (sequence, row)

pub stands : (g : Geometry) (image : Image) (old new : List (ℕ × ℕ)) (row : ℕ) (r : Record) → length image ≡ row_count g → old ≡ pairs_below (marks image) (row_count g) → IsPermutation old new → get_or (marks image) row None ≡ Some r → StandsAt new r.sequence row
stands g image old new row r whole is moved e =
    let found = Contains-permutation old new (r.sequence, row) moved (subst (λ ps. Contains ps (r.sequence, row)) (sym is) (has_pair (marks image) (row_count g) row r (in_rows g image row r whole e) e)) in
    record { place = found.0; within = found.1; is = get_or_default new found.0 (0, 0) (r.sequence, row) found.1 ∙ found.2 }

-- of two sound pages that share a sequence the one of the higher row has a neighbour before it that shares it too
pub shared_at : (g : Geometry) (image : Image) (old new : List (ℕ × ℕ)) (a b : ℕ) → length image ≡ row_count g → old ≡ pairs_below (marks image) (row_count g) → IsPermutation old new → AreInOrder new → RepeatsSequence (marks image) a b
    → (k : ℕ) × (k + 1 < length new) × ((get_or new k (0, 0)).0 ≡ (get_or new (k + 1) (0, 0)).0) × ((get_or new (k + 1) (0, 0)).1 ≡ b)
shared_at g image old new a b whole is moved sorted h =
    let p = stands g image old new a h.first whole is moved h.at_first in
    let q = stands g image old new b h.second whole is moved h.at_second in
    let shared : (get_or new p.place (0, 0)).0 ≡ (get_or new q.place (0, 0)).0 = ap (λ (x : ℕ × ℕ). x.0) p.is ∙ (h.same ∙ ap (λ (x : ℕ × ℕ). x.0) (sym q.is)) in
    let row_a : (get_or new p.place (0, 0)).1 ≡ a = ap (λ (x : ℕ × ℕ). x.1) p.is in
    let row_b : (get_or new q.place (0, 0)).1 ≡ b = ap (λ (x : ℕ × ℕ). x.1) q.is in
    let lt = h.order in
    elim (cases_lt p.place q.place) [
      | inl below ↦
          let k : ℕ = q.place - 1 in
          let next : q.place ≡ k + 1 = omega arith in
          let there : (get_or new (k + 1) (0, 0)).1 ≡ b = subst (λ n. (get_or new n (0, 0)).1 ≡ b) next row_b in
          (k, let l = q.within in omega arith, neighbours new p.place q.place k sorted (omega arith) next q.within shared, there)
      | inr above ↦ absurd (not_above (get_or new q.place (0, 0)) (get_or new p.place (0, 0)) (sorted.ordered q.place p.place above p.within) shared row_a row_b lt)
    ]
  where
    not_above : (x y : ℕ × ℕ) → IsInOrder x y → y.0 ≡ x.0 → y.1 ≡ a → x.1 ≡ b → a < b → ⊥
    not_above x y (inl l) s ra rb lt = omega arith
    not_above x y (inr e) s ra rb lt = let l = e.1 in omega arith

pub distinct_holds : (g : Geometry) (image : Image) (old new : List (ℕ × ℕ)) → length image ≡ row_count g → old ≡ pairs_below (marks image) (row_count g) → IsPermutation old new → AreInOrder new → DifferBelow (length new) new → AreDistinct (marks image)
distinct_holds g image old new whole is moved sorted apart = record {
  apart = λ a b x y ea eb same. elim (cases_order a b) [
    | inl eq ↦ eq
    | inr (inl below) ↦ absurd (let k = shared_at g image old new a b whole is moved sorted (record { order = below; first = x; second = y; at_first = ea; at_second = eb; same = same }) in apart.differ k.0 k.1 k.2)
    | inr (inr above) ↦ absurd (let k = shared_at g image old new b a whole is moved sorted (record { order = above; first = y; second = x; at_first = eb; at_second = ea; same = sym same }) in apart.differ k.0 k.1 k.2)
  ];
}

-- ---- no pair stands twice

same_pair : ℕ × ℕ → ℕ × ℕ → Bool
same_pair p q = eqb p.0 q.0 && eqb p.1 q.1

same_pair_decides : (p q : ℕ × ℕ) → Decides (same_pair p q) (p ≡ q)
unfolding same_pair
same_pair_decides p q = (
  λ t. let s = and_true (eqb p.0 q.0) (eqb p.1 q.1) t in both_same p q (eqb-true p.0 q.0 s.0) (eqb-true p.1 q.1 s.1),
  λ e. subst (λ x. (eqb p.0 x.0 && eqb p.1 x.1) ≡ true) e (rw (eq-eqb p.0 p.0 refl, eq-eqb p.1 p.1 refl) refl),
)
  where
    and_true : (a b : Bool) → (a && b) ≡ true → (a ≡ true) × (b ≡ true)
    and_true true b e = (refl, e)
    and_true false b e = absurd cc

    both_same : (p q : ℕ × ℕ) → p.0 ≡ q.0 → p.1 ≡ q.1 → p ≡ q
    both_same p q e f = ap (λ (x : ℕ). (x, p.1)) e ∙ ap (λ (y : ℕ). (q.0, y)) f

pairs_lower : (ms : List (Option Record)) (rows : ℕ) → All (λ (p : ℕ × ℕ). p.1 < rows) (pairs_below ms rows)
unfolding pairs_below
pairs_lower ms zero = All-nil (λ (p : ℕ × ℕ). p.1 < 0)
pairs_lower ms (suc row) = All-append (λ (p : ℕ × ℕ). p.1 < suc row) (pairs_below ms row) (pair_of row (get_or ms row None)) (λ k d l. let b = pairs_lower ms row k d l in omega arith) (last (get_or ms row None))
  where
    last : (o : Option Record) → All (λ (p : ℕ × ℕ). p.1 < suc row) (pair_of row o)
    last None k d l = absurd (omega arith)
    last (Some r) zero d l = omega arith
    last (Some r) (suc k) d l = absurd (omega arith)

append_none : {X : Type 0} (xs : List X) → xs ++ [] ≡ xs
append_none [] = refl
append_none (x ∷ xs) = ap (λ ys. x ∷ ys) (append_none xs)

pairs_differ : (ms : List (Option Record)) (rows : ℕ) → AllPairs (λ (p q : ℕ × ℕ). p ≢ q) (pairs_below ms rows)
unfolding pairs_below
pairs_differ ms zero = λ i j d lt l. absurd (omega arith)
pairs_differ ms (suc row) = next (get_or ms row None) (pairs_differ ms row) (pairs_lower ms row)
  where
    next : (o : Option Record) → AllPairs (λ (p q : ℕ × ℕ). p ≢ q) (pairs_below ms row) → All (λ (p : ℕ × ℕ). p.1 < row) (pairs_below ms row) → AllPairs (λ (p q : ℕ × ℕ). p ≢ q) (pairs_below ms row ++ pair_of row o)
    next None h low = subst (λ ps. AllPairs (λ (p q : ℕ × ℕ). p ≢ q) ps) (sym (append_none (pairs_below ms row))) h
    next (Some r) h low = all_pairs_push (λ (p q : ℕ × ℕ). p ≢ q) (pairs_below ms row) (r.sequence, row) h (λ k d l e. let b = low k d l in let c : (get_or (pairs_below ms row) k d).1 ≡ row = ap (λ (p : ℕ × ℕ). p.1) e in omega arith)

same_pair_flips : (p q : ℕ × ℕ) → same_pair p q ≡ same_pair q p
same_pair_flips p q =
    let there = same_pair_decides p q in
    let back = same_pair_decides q p in
    one_answer (same_pair p q) (same_pair q p) there (λ t. sym (back.0 t), λ e. back.1 (sym e))

-- the pairs are different in whatever order
pairs_apart : (ms : List (Option Record)) (rows : ℕ) (new : List (ℕ × ℕ)) → IsPermutation (pairs_below ms rows) new → AllPairs (λ (p q : ℕ × ℕ). p ≢ q) new
pairs_apart ms rows new moved =
    AllPairs-from_IsDistinct same_pair_decides new (IsDistinct-IsPermutation same_pair same_pair_flips (pairs_below ms rows) new moved (IsDistinct-from_AllPairs same_pair_decides (pairs_below ms rows) (pairs_differ ms rows)))

-- the record of a pair
pub pair_from : (ms : List (Option Record)) (rows : ℕ) → All (λ (p : ℕ × ℕ). (r : Record) × (get_or ms p.1 None ≡ Some r) × (r.sequence ≡ p.0)) (pairs_below ms rows)
unfolding pairs_below
pair_from ms zero = All-nil (λ (p : ℕ × ℕ). (r : Record) × (get_or ms p.1 None ≡ Some r) × (r.sequence ≡ p.0))
pair_from ms (suc row) = All-append (λ (p : ℕ × ℕ). (r : Record) × (get_or ms p.1 None ≡ Some r) × (r.sequence ≡ p.0)) (pairs_below ms row) (pair_of row (get_or ms row None)) (pair_from ms row) (last (get_or ms row None) refl)
  where
    last : (o : Option Record) → get_or ms row None ≡ o → All (λ (p : ℕ × ℕ). (r : Record) × (get_or ms p.1 None ≡ Some r) × (r.sequence ≡ p.0)) (pair_of row o)
    last None e k d l = absurd (omega arith)
    last (Some r) e zero d l = (r, e, refl)
    last (Some r) e (suc k) d l = absurd (omega arith)

-- two neighbours that share a sequence are a repetition
pub repeated_at : (g : Geometry) (image : Image) (old new : List (ℕ × ℕ)) (first second : ℕ) → length image ≡ row_count g
    → old ≡ pairs_below (marks image) (row_count g) → IsPermutation old new → AreInOrder new → IsLowestBelow (length new) new first second
    → IsFirstRepeated (marks image) first second
repeated_at g image old new first second whole is moved sorted h =
    let ms = marks image in
    let x = get_or new h.place (0, 0) in
    let y = get_or new (h.place + 1) (0, 0) in
    let P : ℕ × ℕ → Type 0 = λ p. (r : Record) × (get_or ms p.1 None ≡ Some r) × (r.sequence ≡ p.0) in
    let all_old : All P old = subst (λ ps. All P ps) (sym is) (pair_from ms (row_count g)) in
    let all_new : All P new = All-permutation P old new moved all_old in
    let a = all_new h.place (0, 0) (let l = h.within in omega arith) in
    let b = all_new (h.place + 1) (0, 0) h.within in
    let apart : AllPairs (λ (p q : ℕ × ℕ). p ≢ q) new = pairs_apart ms (row_count g) new (subst (λ ps. IsPermutation ps new) is moved) in
    let le = row_le x y (sorted.ordered h.place (h.place + 1) (omega arith) h.within) h.same in
    let ne : x.1 ≢ y.1 = λ e. apart h.place (h.place + 1) (0, 0) (omega arith) h.within (both x y h.same e) in
    record {
      pair = record {
        order = let e1 = h.first_is in let e2 = h.second_is in less x.1 y.1 first second le ne e1 e2;
        first = a.0;
        second = b.0;
        at_first = rw h.first_is a.1;
        at_second = rw h.second_is b.1;
        same = a.2 ∙ (h.same ∙ sym b.2);
      };
      lowest = λ c d again.
          let k = shared_at g image old new c d whole is moved sorted again in
          let low = h.lowest k.0 k.1 k.2 in
          let e = k.3 in
          omega arith;
    }
  where
    both : (p q : ℕ × ℕ) → p.0 ≡ q.0 → p.1 ≡ q.1 → p ≡ q
    both p q e f = ap (λ (x : ℕ). (x, p.1)) e ∙ ap (λ (y : ℕ). (q.0, y)) f

    row_le : (p q : ℕ × ℕ) → IsInOrder p q → p.0 ≡ q.0 → p.1 ≤ q.1
    row_le p q (inl l) e = absurd (omega arith)
    row_le p q (inr l) e = l.1

    less : (m n a b : ℕ) → m ≤ n → m ≢ n → a ≡ m → b ≡ n → a < b
    less m n a b le ne ea eb = omega arith

pub sequences_wrong : (g : Geometry) (capacity : ℕ) (image : Image) (claim : Claim) (first second : ℕ) → IsFirstRepeated (marks image) first second → IsWrong g capacity image claim Sequences (SequenceRepeated first second)
sequences_wrong g capacity image claim first second h = record {
  part_is = refl;
  fails = λ (d : AreDistinct (marks image)). let e = d.apart first second h.pair.first h.pair.second h.pair.at_first h.pair.at_second h.pair.same in let l = h.pair.order in omega arith;
  says = h;
}

-- ---- the loop

pub record Looked (n : ℕ) (pairs : List (ℕ × ℕ)) (lowest : Option (ℕ × ℕ)) : Type 0 where
  pub none : lowest ≡ None → DifferBelow n pairs
  pub some : (rows : ℕ × ℕ) → lowest ≡ Some rows → IsLowestBelow n pairs rows.0 rows.1

pub looked_start : (pairs : List (ℕ × ℕ)) → Looked 1 pairs None
looked_start pairs = record { none = λ e. record { differ = λ i l. absurd (omega arith) }; some = λ rows e. absurd cc }

-- the lowest so far stays the lowest with the next neighbours
lowest_stays : (n : ℕ) (pairs : List (ℕ × ℕ)) (a b : ℕ) → IsLowestBelow n pairs a b
    → ((i : ℕ) → i + 1 ≡ n → (get_or pairs i (0, 0)).0 ≡ (get_or pairs (i + 1) (0, 0)).0 → b ≤ (get_or pairs (i + 1) (0, 0)).1) → IsLowestBelow (n + 1) pairs a b
lowest_stays n pairs a b old next = record {
  place = old.place;
  within = let l = old.within in omega arith;
  same = old.same;
  first_is = old.first_is;
  second_is = old.second_is;
  lowest = λ i l s. elim (cases_lt (i + 1) n) [
    | inl below ↦ old.lowest i below s
    | inr last ↦ next i (omega arith) s
  ];
}

-- the next neighbours differ
pub looked_apart : (n : ℕ) (pairs : List (ℕ × ℕ)) (lowest : Option (ℕ × ℕ)) → 1 ≤ n → (get_or pairs (n - 1) (0, 0)).0 ≢ (get_or pairs n (0, 0)).0 → Looked n pairs lowest → Looked (n + 1) pairs lowest
looked_apart n pairs lowest one ne h = record {
  none = λ e. record {
    differ = λ i l. elim (cases_lt (i + 1) n) [
      | inl below ↦ (h.none e).differ i below
      | inr last ↦ let a : i ≡ n - 1 = omega arith in let b : i + 1 ≡ n = omega arith in rw (b, a) ne
    ];
  };
  some = λ rows e. lowest_stays n pairs rows.0 rows.1 (h.some rows e) (λ i last s. let a : i ≡ n - 1 = omega arith in absurd (ne (rw (← a, ← last) s)));
}

-- the next neighbours share a sequence, and their second row is no lower
pub looked_kept : (n : ℕ) (pairs : List (ℕ × ℕ)) (lowest : Option (ℕ × ℕ)) (rows : ℕ × ℕ) → lowest ≡ Some rows → 1 ≤ n → rows.1 ≤ (get_or pairs n (0, 0)).1 → Looked n pairs lowest → Looked (n + 1) pairs lowest
looked_kept n pairs lowest rows is one le h = record {
  none = λ e. absurd (let clash : Some rows ≡ None = sym is ∙ e in cc);
  some = λ more e.
      let both : Some rows ≡ Some more = sym is ∙ e in
      let same : rows ≡ more = cc in
      subst (λ (r : ℕ × ℕ). IsLowestBelow (n + 1) pairs r.0 r.1) same (lowest_stays n pairs rows.0 rows.1 (h.some rows is) (λ i last s. rw last le));
}

-- they share one, and their second row is the lowest
pub looked_found : (n : ℕ) (pairs : List (ℕ × ℕ)) (lowest : Option (ℕ × ℕ)) (p q : ℕ × ℕ) → 1 ≤ n → p ≡ get_or pairs (n - 1) (0, 0)
    → q ≡ get_or pairs n (0, 0) → p.0 ≡ q.0 → ((rows : ℕ × ℕ) → lowest ≡ Some rows → q.1 ≤ rows.1) → Looked n pairs lowest
    → Looked (n + 1) pairs (Some (p.1, q.1))
looked_found n pairs lowest p q one at_p at_q same low h = record {
  none = λ e. absurd cc;
  some = λ more e. let eq : (p.1, q.1) ≡ more = cc in subst (λ (r : ℕ × ℕ). IsLowestBelow (n + 1) pairs r.0 r.1) eq (found lowest low h);
}
  where
    next : n - 1 + 1 ≡ n
    next = omega arith

    found : (lowest : Option (ℕ × ℕ)) → ((rows : ℕ × ℕ) → lowest ≡ Some rows → q.1 ≤ rows.1) → Looked n pairs lowest → IsLowestBelow (n + 1) pairs p.1 q.1
    found lowest low h = record {
      place = n - 1;
      within = omega arith;
      same = rw (next, ← at_p, ← at_q) same;
      first_is = ap (λ (x : ℕ × ℕ). x.1) at_p;
      second_is = rw next (ap (λ (x : ℕ × ℕ). x.1) at_q);
      lowest = λ i l s. elim (cases_lt (i + 1) n) [
        | inl below ↦ earlier lowest low h i below s
        | inr last ↦ let b : i + 1 ≡ n = omega arith in rw (b, ← at_q) (omega arith)
      ];
    }
      where
        earlier : (o : Option (ℕ × ℕ)) → ((rows : ℕ × ℕ) → o ≡ Some rows → q.1 ≤ rows.1) → Looked n pairs o → (i : ℕ) → i + 1 < n → (get_or pairs i (0, 0)).0 ≡ (get_or pairs (i + 1) (0, 0)).0 → q.1 ≤ (get_or pairs (i + 1) (0, 0)).1
        earlier None low h i l s = absurd ((h.none refl).differ i l s)
        earlier (Some rows) low h i l s = let a = (h.some rows refl).lowest i l s in let b = low rows refl in omega arith

-- the second row is not above that found so far
pub looked_some : (lowest : Option (ℕ × ℕ)) (found : ℕ × ℕ) (second : ℕ) → lowest ≡ Some found → second ≤ found.1 → (rows : ℕ × ℕ) → lowest ≡ Some rows → second ≤ rows.1
looked_some lowest found second is le rows e = let both : Some found ≡ Some rows = sym is ∙ e in let same : found ≡ rows = cc in subst (λ (r : ℕ × ℕ). second ≤ r.1) same le

pub looked_none : (lowest : Option (ℕ × ℕ)) (second : ℕ) → lowest ≡ None → (rows : ℕ × ℕ) → lowest ≡ Some rows → second ≤ rows.1
looked_none lowest second is rows e = absurd (let clash : None ≡ Some rows = sym is ∙ e in cc)

-- the end of the loop, which begins at 1
pub looked_end : (n : ℕ) (pairs : List (ℕ × ℕ)) (lowest : Option (ℕ × ℕ)) → length pairs ≤ n → n ≤ length pairs + 1 → (1 ≤ length pairs → n ≤ length pairs) → Looked n pairs lowest → Looked (length pairs) pairs lowest
looked_end n pairs lowest past near within h = elim (cases_lt 0 (length pairs)) [
  | inl some ↦ let l = within some in let e : n ≡ length pairs = omega arith in subst (λ k. Looked k pairs lowest) e h
  | inr none ↦ record {
    none = λ e. record { differ = λ i l. absurd (omega arith) };
    some = λ rows e. let old = h.some rows e in absurd (let l = old.within in omega arith);
  }
]

pub found_of : (n : ℕ) (pairs : List (ℕ × ℕ)) (lowest : Option (ℕ × ℕ)) → Looked n pairs lowest → IfSome lowest (λ rows. IsLowestBelow n pairs rows.0 rows.1)
found_of n pairs None h = tt
found_of n pairs (Some rows) h = h.some rows refl

pub none_of : (n : ℕ) (pairs : List (ℕ × ℕ)) (lowest : Option (ℕ × ℕ)) → Looked n pairs lowest → IfNone lowest (DifferBelow n pairs)
none_of n pairs None h = h.none refl
none_of n pairs (Some rows) h = tt

-- what holds of each element holds of each in another order
all_moved : {X : Type 0} (P : X → Type 0) (xs ys : List X) → IsPermutation xs ys → All P ys → All P xs
all_moved P xs ys moved all k d within =
    let found = Contains-permutation xs ys (get_or xs k d) moved (Contains-get_or xs k d within) in
    subst P found.2 (all found.0 (get_or xs k d) found.1)

pub next_moved : (g : Geometry) (image : Image) (pairs : List (ℕ × ℕ)) (next : ℕ) → SurveysPairs g image pairs → All (λ (p : ℕ × ℕ). p.0 < next) pairs → AreBelow (marks image) next
next_moved g image pairs next h all =
    next_holds g image (pairs_below (marks image) (row_count g)) next h.whole refl (all_moved (λ (p : ℕ × ℕ). p.0 < next) (pairs_below (marks image) (row_count g)) pairs h.moved all)

pub next_needed : (g : Geometry) (image : Image) (pairs : List (ℕ × ℕ)) (next : ℕ) → SurveysPairs g image pairs → AreBelow (marks image) next → All (λ (p : ℕ × ℕ). p.0 < next) pairs
next_needed g image pairs next h below =
    let old = pairs_below (marks image) (row_count g) in
    all_moved (λ (p : ℕ × ℕ). p.0 < next) pairs old (IsPermutation-sym old pairs h.moved) (next_needs g image old next refl below)
