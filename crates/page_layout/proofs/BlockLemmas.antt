-- What the pages of a block show.
use Rattle.std.proofs.Common.{◌≡◌, ◌⊎◌, inl, inr, ℕ, zero, suc, ◌+◌, ◌<◌, ◌≤◌, Bool, true, false, List, [], ◌∷◌, Option, Some, None, refl, ap, sym, ◌∙◌, arith}
use Rattle.std.specs.Prelude.{slice_get, max, not, ◌↔◌}
use Rattle.std.specs.List.{fold, list_any}
use Rattle.std.proofs.lemmas.Bool.{cases_Bool, cases_lt, cond-true, cond-false}
use Rattle.std.proofs.lemmas.List.Folds.{Any-from_list_any, list_any-from_Any}
use Rattle.std.proofs.lemmas.Option.{slice_get-get_or, slice_get_within, get_or_from_slice_get}
use Rattle.page_layout.specs.declared.record.Record.{Record}
use Rattle.page_layout.specs.Page.{Page}
use Rattle.page_layout.specs.Sound.{record_of, is_erased_page}
use Rattle.page_layout.specs.Block.{HasGap, IsTopWear, has_gap, is_programmed, written, wear_in, top_wear}
use Rattle.page_layout.proofs.CountLemmas.{bit, count_by-cons}

-- ---- gaps

not_programmed : (p : Page) → is_programmed p ≡ true → is_erased_page p ≡ false
not_programmed p e = was (is_erased_page p) e
  where
    was : (b : Bool) → not b ≡ true → b ≡ false
    was true e = cc
    was false e = refl

gap_first : (p : Page) (ps : List Page) → is_erased_page p ≡ true → list_any is_programmed ps ≡ true → HasGap (p ∷ ps)
gap_first p ps blank some =
    let found = Any-from_list_any is_programmed ps some in
    record {
      early = 0;
      late = suc found.0;
      order = omega arith;
      erased = p;
      programmed = found.1;
      erased_at = refl;
      programmed_at = slice_get-get_or ps found.0 found.1 found.2 ∙ ap Some found.3;
      is_erased = blank;
      is_not = not_programmed found.1 found.4;
    }

gap_later : (p : Page) (ps : List Page) → HasGap ps → HasGap (p ∷ ps)
gap_later p ps gap = record {
  early = suc gap.early;
  late = suc gap.late;
  order = omega (arith, gap.order);
  erased = gap.erased;
  programmed = gap.programmed;
  erased_at = gap.erased_at;
  programmed_at = gap.programmed_at;
  is_erased = gap.is_erased;
  is_not = gap.is_not;
}

pub gap_is : (ps : List Page) → has_gap ps ≡ true → HasGap ps
unfolding has_gap
gap_is [] e = absurd (let no : false ≡ true = e in cc)
gap_is (p ∷ ps) e = elim (cases_Bool (is_erased_page p)) [
  | inl blank ↦ gap_first p ps blank (sym (cond-true (is_erased_page p) (list_any is_programmed ps) (has_gap ps) blank) ∙ e)
  | inr filled ↦ gap_later p ps (gap_is ps (sym (cond-false (is_erased_page p) (list_any is_programmed ps) (has_gap ps) filled) ∙ e))
]

some_programmed : (ps : List Page) (k : ℕ) (q : Page) → slice_get ps k ≡ Some q → is_erased_page q ≡ false → list_any is_programmed ps ≡ true
some_programmed ps k q at filled =
    list_any-from_Any is_programmed ps (k, q, slice_get_within ps k q at, get_or_from_slice_get ps k q q at, ap not filled)

gap_at : (ps : List Page) (early late : ℕ) (p q : Page) → early < late → slice_get ps early ≡ Some p → slice_get ps late ≡ Some q → is_erased_page p ≡ true → is_erased_page q ≡ false → has_gap ps ≡ true
unfolding has_gap
gap_at [] early late p q order at later blank filled = absurd (let no : None ≡ Some p = at in cc)
gap_at (x ∷ xs) early zero p q order at later blank filled = absurd (omega arith)
gap_at (x ∷ xs) zero (suc late) p q order at later blank filled =
    let same : x ≡ p = cc in
    cond-true (is_erased_page x) (list_any is_programmed xs) (has_gap xs) (ap is_erased_page same ∙ blank) ∙ some_programmed xs late q later filled
gap_at (x ∷ xs) (suc early) (suc late) p q order at later blank filled = elim (cases_Bool (is_erased_page x)) [
  | inl first ↦ cond-true (is_erased_page x) (list_any is_programmed xs) (has_gap xs) first ∙ some_programmed xs late q later filled
  | inr other ↦ cond-false (is_erased_page x) (list_any is_programmed xs) (has_gap xs) other ∙ gap_at xs early late p q (omega arith) at later blank filled
]

pub gap_from : (ps : List Page) → HasGap ps → has_gap ps ≡ true
gap_from ps gap = gap_at ps gap.early gap.late gap.erased gap.programmed gap.order gap.erased_at gap.programmed_at gap.is_erased gap.is_not

-- ---- the write pointer

-- pages that are all erased are none programmed
none_written : (ps : List Page) → ((k : ℕ) (q : Page) → slice_get ps k ≡ Some q → is_erased_page q ≡ true) → written ps ≡ 0
none_written [] blank = refl
none_written (x ∷ xs) blank =
    let here : bit (is_programmed x) ≡ 0 = ap (λ b. bit (not b)) (blank 0 x refl) in
    omega (arith, count_by-cons is_programmed x xs, here, none_written xs (λ k q at. blank (suc k) q at))

pub none_programmed : (ps : List Page) → list_any is_programmed ps ≡ false → (k : ℕ) (q : Page) → slice_get ps k ≡ Some q → is_erased_page q ≡ true
none_programmed ps none k q at = elim (cases_Bool (is_erased_page q)) [
  | inl blank ↦ blank
  | inr filled ↦ absurd (let some : list_any is_programmed ps ≡ true = some_programmed ps k q at filled in cc)
]

first_erased : (x : Page) (xs : List Page) → has_gap (x ∷ xs) ≡ false → is_erased_page x ≡ true → (k : ℕ) (q : Page) → slice_get (x ∷ xs) k ≡ Some q → is_erased_page q ≡ true
unfolding has_gap
first_erased x xs gap blank zero q at = let same : x ≡ q = cc in sym (ap is_erased_page same) ∙ blank
first_erased x xs gap blank (suc k) q at =
    none_programmed xs (sym (cond-true (is_erased_page x) (list_any is_programmed xs) (has_gap xs) blank) ∙ gap) k q at

rest_gap : (x : Page) (xs : List Page) → has_gap (x ∷ xs) ≡ false → is_erased_page x ≡ false → has_gap xs ≡ false
unfolding has_gap
rest_gap x xs gap filled = sym (cond-false (is_erased_page x) (list_any is_programmed xs) (has_gap xs) filled) ∙ gap

written_more : (x : Page) (xs : List Page) → is_erased_page x ≡ false → written (x ∷ xs) ≡ 1 + written xs
written_more x xs filled =
    let one : bit (is_programmed x) ≡ 1 = ap (λ b. bit (not b)) filled in
    omega (arith, count_by-cons is_programmed x xs, one)

before_pointer : (ps : List Page) (k : ℕ) (p : Page) → has_gap ps ≡ false → slice_get ps k ≡ Some p → k < written ps → is_erased_page p ≡ false
before_pointer [] k p gap at below = absurd (let no : None ≡ Some p = at in cc)
before_pointer (x ∷ xs) zero p gap at below = elim (cases_Bool (is_erased_page x)) [
  | inl blank ↦ absurd (omega (arith, none_written (x ∷ xs) (first_erased x xs gap blank), below))
  | inr filled ↦ let same : x ≡ p = cc in sym (ap is_erased_page same) ∙ filled
]
before_pointer (x ∷ xs) (suc k) p gap at below = elim (cases_Bool (is_erased_page x)) [
  | inl blank ↦ absurd (omega (arith, none_written (x ∷ xs) (first_erased x xs gap blank), below))
  | inr filled ↦ before_pointer xs k p (rest_gap x xs gap filled) at (omega (arith, written_more x xs filled, below))
]

from_pointer : (ps : List Page) (k : ℕ) (p : Page) → has_gap ps ≡ false → slice_get ps k ≡ Some p → written ps ≤ k → is_erased_page p ≡ true
from_pointer [] k p gap at over = absurd (let no : None ≡ Some p = at in cc)
from_pointer (x ∷ xs) zero p gap at over = elim (cases_Bool (is_erased_page x)) [
  | inl blank ↦ first_erased x xs gap blank 0 p at
  | inr filled ↦ absurd (omega (arith, written_more x xs filled, over))
]
from_pointer (x ∷ xs) (suc k) p gap at over = elim (cases_Bool (is_erased_page x)) [
  | inl blank ↦ first_erased x xs gap blank (suc k) p at
  | inr filled ↦ from_pointer xs k p (rest_gap x xs gap filled) at (omega (arith, written_more x xs filled, over))
]

pub pointer_is : (ps : List Page) (k : ℕ) (p : Page) → has_gap ps ≡ false → slice_get ps k ≡ Some p → (is_erased_page p ≡ true) ↔ (written ps ≤ k)
pointer_is ps k p gap at = (to, from_pointer ps k p gap at)
  where
    to : is_erased_page p ≡ true → written ps ≤ k
    to blank = elim (cases_lt k (written ps)) [
      | inl below ↦ absurd (let filled : is_erased_page p ≡ false = before_pointer ps k p gap at below in cc)
      | inr over ↦ over
    ]

-- ---- the greatest wear

-- of a list whose pages were looked at from a wear on
record IsTopFrom (ps : List Page) (w wear : ℕ) : Type 0 where
  pub start : w ≤ wear
  pub most : (k : ℕ) (p : Page) (r : Record) → slice_get ps k ≡ Some p → record_of p ≡ Some r → r.wear ≤ wear
  pub met : (wear ≡ w) ⊎ ((k : ℕ) × (p : Page) × (r : Record) × (slice_get ps k ≡ Some p) × (record_of p ≡ Some r) × (r.wear ≡ wear))

-- the record that a wear above a number is of
wear_of : (o : Option Record) (w : ℕ) → w < wear_in o → (r : Record) × (o ≡ Some r) × (r.wear ≡ wear_in o)
wear_of None w above = absurd (omega arith)
wear_of (Some r) w above = (r, refl, refl)

top_more : (x : Page) (xs : List Page) (w wear : ℕ) → IsTopFrom xs (max w (wear_in (record_of x))) wear → IsTopFrom (x ∷ xs) w wear
top_more x xs w wear rest = record { start = omega (arith, rest.start); most = most; met = met rest.met }
  where
    most : (k : ℕ) (p : Page) (r : Record) → slice_get (x ∷ xs) k ≡ Some p → record_of p ≡ Some r → r.wear ≤ wear
    most zero p r at is =
        let same : x ≡ p = cc in
        let its : wear_in (record_of x) ≡ r.wear = ap (λ q. wear_in (record_of q)) same ∙ ap wear_in is in
        omega (arith, rest.start, its)
    most (suc k) p r at is = rest.most k p r at is

    met : (wear ≡ max w (wear_in (record_of x))) ⊎ ((k : ℕ) × (p : Page) × (r : Record) × (slice_get xs k ≡ Some p) × (record_of p ≡ Some r) × (r.wear ≡ wear))
        → (wear ≡ w) ⊎ ((k : ℕ) × (p : Page) × (r : Record) × (slice_get (x ∷ xs) k ≡ Some p) × (record_of p ≡ Some r) × (r.wear ≡ wear))
    met (inr later) = inr (suc later.0, later.1, later.2, later.3, later.4, later.5)
    met (inl here) = elim (cases_lt w (wear_in (record_of x))) [
      | inl above ↦
          let its = wear_of (record_of x) w above in
          inr (0, x, its.0, refl, its.1, omega (arith, its.2, here, above))
      | inr below ↦ inl (omega (arith, here, below))
    ]

top_from : (ps : List Page) (w : ℕ) → IsTopFrom ps w (fold (λ v p. max v (wear_in (record_of p))) w ps)
top_from [] w = record { start = omega arith; most = λ k p r at is. absurd (let no : None ≡ Some p = at in cc); met = inl refl }
top_from (x ∷ xs) w = top_more x xs w (fold (λ v p. max v (wear_in (record_of p))) (max w (wear_in (record_of x))) xs) (top_from xs (max w (wear_in (record_of x))))

pub top_is : (ps : List Page) → IsTopWear ps (top_wear ps)
top_is ps = let top = top_from ps 0 in record { most = top.most; met = top.met }
