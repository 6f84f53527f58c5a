-- The greatest sequence of all sound pages.
use Rattle.std.proofs.Common.{◌≡◌, ℕ, ◌+◌, ◌-◌, ◌^◌, ◌<◌, ◌≤◌, ◌⊎◌, inl, inr, All, List, length, get_or, max, Some, None, refl, sym, ap, subst, ◌∙◌, arith}
use Rattle.std.proofs.lemmas.Bool.{cases_order, cases_lt}
use Rattle.std.proofs.lemmas.List.Sorted.{All-permutation}
use Rattle.std.proofs.lemmas.List.{get_or_default}
use Rattle.page_layout.specs.declared.geometry.Geometry.{Geometry}
use Rattle.page_layout.specs.declared.record.Record.{Record}
use Rattle.page_layout.specs.declared.record.Key.TheVariants.{Table}
use Rattle.page_layout.specs.Geometry.{row_count, table_pages}
use Rattle.page_layout.specs.Page.{Image}
use Rattle.page_layout.specs.Array.{marks}
use Rattle.page_layout.specs.OneArray.{AreBelow}
use Rattle.page_layout.proofs.GeometryLemmas.{block_entry}
use Rattle.page_layout.proofs.NewestLemmas.{newest-record}
use Rattle.image_check.specs.Agrees.{HasTables}
use Rattle.image_check.specs.Survey.{pairs_below}
use Rattle.image_check.specs.Surveyed.{SurveysPairs}
use Rattle.image_check.proofs.SequenceLemmas.{pair_from, next_moved}
use Rattle.mount.specs.Mounted.{IsNextSequence, IsSpent}

-- the greatest sequence of the first n pairs, or 0
pub record IsTopOf (pairs : List (ℕ × ℕ)) (n top : ℕ) : Type 0 where
  pub above : (k : ℕ) → k < n → (get_or pairs k (0, 0)).0 ≤ top
  pub reached : (top ≡ 0) ⊎ ((k : ℕ) × (k < n) × ((get_or pairs k (0, 0)).0 ≡ top))

pub top_start : (pairs : List (ℕ × ℕ)) → IsTopOf pairs 0 0
top_start pairs = record { above = λ k l. absurd (omega arith); reached = inl refl }

pub top_more : (pairs : List (ℕ × ℕ)) (n top new sequence : ℕ) → IsTopOf pairs n top → (get_or pairs n (0, 0)).0 ≡ sequence → new ≡ max top sequence → IsTopOf pairs (n + 1) new
top_more pairs n top new sequence h at is = record {
  above = λ k l. elim (cases_order k n) [
    | inl same ↦ let here : (get_or pairs k (0, 0)).0 ≡ sequence = subst (λ i. (get_or pairs i (0, 0)).0 ≡ sequence) (sym same) at in omega arith
    | inr (inl below) ↦ let le = h.above k below in omega arith
    | inr (inr past) ↦ absurd (omega arith)
  ];
  reached = elim (cases_lt top sequence) [
    | inl below ↦ inr (n, omega arith, omega arith)
    | inr over ↦ let e : new ≡ top = omega arith in subst (λ t. (t ≡ 0) ⊎ ((k : ℕ) × (k < n + 1) × ((get_or pairs k (0, 0)).0 ≡ t))) (sym e) (still h.reached)
  ];
}
  where
    still : (top ≡ 0) ⊎ ((k : ℕ) × (k < n) × ((get_or pairs k (0, 0)).0 ≡ top)) → (top ≡ 0) ⊎ ((k : ℕ) × (k < n + 1) × ((get_or pairs k (0, 0)).0 ≡ top))
    still (inl e) = inl e
    still (inr r) = inr (r.0, let l = r.1 in omega arith, r.2)

-- the page of a pair
pair_page : (g : Geometry) (image : Image) (pairs : List (ℕ × ℕ)) (k : ℕ) → SurveysPairs g image pairs → k < length pairs → (r : Record) × (get_or (marks image) (get_or pairs k (0, 0)).1 None ≡ Some r) × (r.sequence ≡ (get_or pairs k (0, 0)).0)
pair_page g image pairs k h l =
    All-permutation (λ (p : ℕ × ℕ). (r : Record) × (get_or (marks image) p.1 None ≡ Some r) × (r.sequence ≡ p.0)) (pairs_below (marks image) (row_count g)) pairs h.moved (pair_from (marks image) (row_count g)) k (0, 0) l

all_below : (pairs : List (ℕ × ℕ)) (top : ℕ) → IsTopOf pairs (length pairs) top → All (λ (p : ℕ × ℕ). p.0 < top + 1) pairs
all_below pairs top h = λ k d l.
    let le = h.above k l in
    let e : (get_or pairs k d).0 ≡ (get_or pairs k (0, 0)).0 = ap (λ (p : ℕ × ℕ). p.0) (get_or_default pairs k d (0, 0) l) in
    omega arith

next_is : (g : Geometry) (image : Image) (pairs : List (ℕ × ℕ)) (top : ℕ) → SurveysPairs g image pairs → HasTables g image → IsTopOf pairs (length pairs) top → IsNextSequence (marks image) (top + 1)
next_is g image pairs top h tables most = by_case most.reached
  where
    below : AreBelow (marks image) (top + 1)
    below = next_moved g image pairs (top + 1) h (all_below pairs top most)

    by_case : (top ≡ 0) ⊎ ((k : ℕ) × (k < length pairs) × ((get_or pairs k (0, 0)).0 ≡ top)) → IsNextSequence (marks image) (top + 1)
    by_case (inl none) =
        let least = g.limits.block_count.least in
        let some : 0 < table_pages g = let l = block_entry g 0 (omega arith) in omega arith in
        let f = tables.formatted 0 some in
        let r = newest-record (marks image) (Table 0) f.row f.newest_is in
        let low = below.below f.row r.0 r.1 in
        record { row = f.row; greatest = r.0; here = r.1; is = omega arith; above = below }
    by_case (inr k) =
        let p = pair_page g image pairs k.0 h k.1 in
        let e = p.2 in
        let s = k.2 in
        record { row = (get_or pairs k.0 (0, 0)).1; greatest = p.0; here = p.1; is = omega arith; above = below }

spent_is : (g : Geometry) (image : Image) (pairs : List (ℕ × ℕ)) (top : ℕ) → SurveysPairs g image pairs → IsTopOf pairs (length pairs) top → top ≡ 2 ^ 64 - 1 → IsSpent (marks image)
spent_is g image pairs top h most last = by_case most.reached
  where
    by_case : (top ≡ 0) ⊎ ((k : ℕ) × (k < length pairs) × ((get_or pairs k (0, 0)).0 ≡ top)) → IsSpent (marks image)
    by_case (inl none) = absurd (omega arith)
    by_case (inr k) =
        let p = pair_page g image pairs k.0 h k.1 in
        record { row = (get_or pairs k.0 (0, 0)).1; last = p.0; here = p.1; is = p.2 ∙ (k.2 ∙ last) }

-- the loop's end

pub next_of_all : (pairs : List (ℕ × ℕ)) (n top next : ℕ) → IsTopOf pairs n top → n ≡ length pairs → next ≡ top + 1 → (g : Geometry) (image : Image) → SurveysPairs g image pairs → HasTables g image → IsNextSequence (marks image) next
next_of_all pairs n top next most whole is g image h tables = subst (IsNextSequence (marks image)) (sym is) (next_is g image pairs top h tables (subst (λ k. IsTopOf pairs k top) whole most))

pub spent_of_all : (pairs : List (ℕ × ℕ)) (n top : ℕ) → IsTopOf pairs n top → n ≡ length pairs → top ≡ 2 ^ 64 - 1 → (g : Geometry) (image : Image) → SurveysPairs g image pairs → IsSpent (marks image)
spent_of_all pairs n top most whole last g image h = spent_is g image pairs top h (subst (λ k. IsTopOf pairs k top) whole most) last
