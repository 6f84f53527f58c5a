-- One page more in the counts.
use Rattle.std.proofs.Common.{◌≡◌, ℕ, zero, suc, ◌+◌, ◌/◌, ◌<◌, ◌≤◌, List, [], ◌∷◌, ◌++◌, length, get_or, set, take, replicate, Option, Some, None, All}
use Rattle.std.proofs.Common.{Bool, true, false, refl, sym, ap, ◌∙◌, subst, arith, slice_get, inl, inr, cond, count_by}
use Rattle.std.specs.Prelude.{◌==◌, ◌&&◌, not, is_some}
use Rattle.std.specs.List.{range_with_len}
use Rattle.std.proofs.lemmas.Bool.{cases_eq, eq-eqb, ne_eqb}
use Rattle.std.proofs.lemmas.List.{get_or-set_same, get_or-set_other, get_or-replicate, get_or_default, length-set, length-replicate}
use Rattle.std.proofs.lemmas.List.Sums.{count_by_more_yes, count_by_more_no, sum_by_push, sum_by-cons}
use Rattle.std.proofs.lemmas.Option.{slice_get-get_or, slice_get_within, same_Some}
use Rattle.std.proofs.Math.Seq.{take-length}
use Rattle.page_layout.specs.declared.geometry.Geometry.{Geometry}
use Rattle.page_layout.specs.declared.record.Record.{Record}
use Rattle.page_layout.specs.declared.record.Kind.{Kind}
use Rattle.page_layout.specs.declared.record.Kind.TheVariants as kind
use Rattle.page_layout.specs.Page.{Page, Image}
use Rattle.page_layout.specs.Sound.{record_of, is_erased_page, code_of_kind}
use Rattle.page_layout.proofs.RecordLemmas.{erased_no_record}
use Rattle.page_layout.specs.Block.{is_broken}
use Rattle.lab_dump.specs.declared.counts.PageCounts.{PageCounts}
use Rattle.lab_dump.specs.Count.{AreFew, HasUnsound, SortsLaw, no_counts, page_counts_of, with_page_counted, is_of_kind, is_outside, is_last, is_broken_page, is_unsound_in, unsound_below}
use Rattle.page_layout.specs.Change.{one_if}

-- ---- counts

page_at : (image : Image) (row : ℕ) (p : Page) → slice_get image row ≡ Some p → get_or image row p ≡ p
page_at image row p is = same_Some (get_or image row p) p (sym (slice_get-get_or image row p (slice_get_within image row p is)) ∙ is)

pub count_more : (test : Page → Bool) (image : Image) (row : ℕ) (p : Page) → slice_get image row ≡ Some p → count_by test (take (row + 1) image) ≡ count_by test (take row image) + one_if (test p)
count_more test image row p is = by_test (test p) refl
  where
    by_test : (b : Bool) → test p ≡ b → count_by test (take (row + 1) image) ≡ count_by test (take row image) + one_if (test p)
    by_test true e = count_by_more_yes test image row p (slice_get_within image row p is) (ap test (page_at image row p is) ∙ e) ∙ ap (λ b. count_by test (take row image) + one_if b) (sym e)
    by_test false e = count_by_more_no test image row p (slice_get_within image row p is) (ap test (page_at image row p is) ∙ e) ∙ (omega arith ∙ ap (λ b. count_by test (take row image) + one_if b) (sym e))

pub counted_more : (test : Page → Bool) (image : Image) (row : ℕ) (p : Page) (old more : ℕ) → slice_get image row ≡ Some p → old ≡ count_by test (take row image) → more ≡ one_if (test p) → old + more ≡ count_by test (take (row + 1) image)
counted_more test image row p old more is before now = ap (λ k. k + more) before ∙ (ap (λ k. count_by test (take row image) + k) now ∙ sym (count_more test image row p is))

pub counts_more : (g : Geometry) (image : Image) (row : ℕ) (p : Page) (c new : PageCounts) → slice_get image row ≡ Some p → c ≡ page_counts_of g (take row image) → new ≡ with_page_counted g c (record_of p) (is_erased_page p) → new ≡ page_counts_of g (take (row + 1) image)
unfolding page_counts_of
counts_more g image row p c new is old e =
    let a1 = count_more (λ q. is_of_kind kind.Sector (record_of q)) image row p is in
    let a2 = count_more (λ q. is_of_kind kind.Trim (record_of q)) image row p is in
    let a3 = count_more (λ q. is_of_kind kind.Translation (record_of q)) image row p is in
    let a4 = count_more (λ q. is_of_kind kind.Table (record_of q)) image row p is in
    let a5 = count_more is_erased_page image row p is in
    let a6 = count_more is_broken image row p is in
    let a7 = count_more (λ q. is_outside g (record_of q)) image row p is in
    let a8 = count_more (λ q. is_last (record_of q)) image row p is in
    e ∙ (ap (λ k. with_page_counted g k (record_of p) (is_erased_page p)) old ∙ rw (a1, a2, a3, a4, a5, a6, a7, a8) refl)

pub counts_none : (g : Geometry) (image : Image) (c : PageCounts) → c ≡ no_counts → c ≡ page_counts_of g (take 0 image)
unfolding page_counts_of
counts_none g image c e = e

pub counts_whole : (g : Geometry) (image : Image) (rows : ℕ) (c : PageCounts) → length image ≡ rows → c ≡ page_counts_of g (take rows image) → c ≡ page_counts_of g image
counts_whole g image rows c size e = e ∙ ap (page_counts_of g) (ap (λ n. take n image) (sym size) ∙ take-length image)

one_le : (b : Bool) → one_if b ≤ 1
one_le true = omega arith
one_le false = omega arith

pub few_more : (g : Geometry) (rows : ℕ) (c new : PageCounts) (found : Option Record) (erased : Bool) → AreFew rows c → new ≡ with_page_counted g c found erased → AreFew (rows + 1) new
few_more g rows c new found erased h e = subst (AreFew (rows + 1)) (sym e) (record {
  sectors = (let a = one_le (is_of_kind kind.Sector found) in let b = h.sectors in omega arith);
  trims = (let a = one_le (is_of_kind kind.Trim found) in let b = h.trims in omega arith);
  translations = (let a = one_le (is_of_kind kind.Translation found) in let b = h.translations in omega arith);
  tables = (let a = one_le (is_of_kind kind.Table found) in let b = h.tables in omega arith);
  erased = (let a = one_le erased in let b = h.erased in omega arith);
  unsound = (let a = one_le (not erased && not (is_some found)) in let b = h.unsound in omega arith);
  outside = (let a = one_le (is_outside g found) in let b = h.outside in omega arith);
  last = (let a = one_le (is_last found) in let b = h.last in omega arith);
})

pub few_none : (c : PageCounts) → c ≡ no_counts → AreFew 0 c
few_none c e = subst (AreFew 0) (sym e) (record {
  sectors = omega arith;
  trims = omega arith;
  translations = omega arith;
  tables = omega arith;
  erased = omega arith;
  unsound = omega arith;
  outside = omega arith;
  last = omega arith;
})

pub few_weaker : (m n : ℕ) (c : PageCounts) → m ≤ n → AreFew m c → AreFew n c
few_weaker m n c l h = record {
  sectors = (let b = h.sectors in omega arith);
  trims = (let b = h.trims in omega arith);
  translations = (let b = h.translations in omega arith);
  tables = (let b = h.tables in omega arith);
  erased = (let b = h.erased in omega arith);
  unsound = (let b = h.unsound in omega arith);
  outside = (let b = h.outside in omega arith);
  last = (let b = h.last in omega arith);
}

-- ---- by block

pub range_last : (a n j : ℕ) → a + n ≡ j → range_with_len a (suc n) ≡ range_with_len a n ++ j ∷ []
range_last a zero j e = let same : a ≡ j = omega arith in ap (λ k. k ∷ []) same
range_last a (suc n) j e = ap (λ l. a ∷ l) (range_last (a + 1) n j (omega arith))

below_more : (g : Geometry) (image : Image) (row b : ℕ) → unsound_below g image (row + 1) b ≡ unsound_below g image row b + one_if (is_unsound_in g image b row)
unfolding unsound_below
below_more g image row b =
    let next : row + 1 ≡ suc row = omega arith in
    ap (λ n. count_by (is_unsound_in g image b) (range_with_len 0 n)) next
    ∙ (ap (count_by (is_unsound_in g image b)) (range_last 0 row row (omega arith)) ∙ push (is_unsound_in g image b) (range_with_len 0 row) row)
  where
    push : (test : ℕ → Bool) (xs : List ℕ) (x : ℕ) → count_by test (xs ++ x ∷ []) ≡ count_by test xs + one_if (test x)
    push test xs x = sum_by_push (λ y. cond (test y) 1 0) xs x

-- the row's page isn't one that is counted for the block
below_same : (g : Geometry) (image : Image) (row b : ℕ) → is_unsound_in g image b row ≡ false → unsound_below g image (row + 1) b ≡ unsound_below g image row b
below_same g image row b e = below_more g image row b ∙ (ap (λ t. unsound_below g image row b + one_if t) e ∙ omega arith)

at_row : (image : Image) (row : ℕ) (p : Page) (b : Bool) → slice_get image row ≡ Some p → is_broken p ≡ b → is_broken_page (slice_get image row) ≡ b
at_row image row p b is e = ap is_broken_page is ∙ e

no_right : (a : Bool) → (a && false) ≡ false
no_right true = refl
no_right false = refl

pub unsound_none : (g : Geometry) (image : Image) (row : ℕ) (p : Page) (items : List ℕ) → HasUnsound g image row items → slice_get image row ≡ Some p → is_broken p ≡ false → HasUnsound g image (row + 1) items
unsound_none g image row p items h is e = record {
  size = h.size;
  at = λ b l. h.at b l ∙ sym (below_same g image row b (ap (λ t. (row / g.pages == b) && t) (at_row image row p false is e) ∙ no_right (row / g.pages == b)));
}

pub unsound_set : (g : Geometry) (image : Image) (row b d new : ℕ) (p : Page) (items : List ℕ) → HasUnsound g image row items
    → slice_get image row ≡ Some p → is_broken p ≡ true → b ≡ row / g.pages → b < g.blocks → new ≡ get_or items b d + 1
    → HasUnsound g image (row + 1) (set items b new)
unsound_set g image row b d new p items h is e block within more =
    let in_items : b < length items = omega (arith, h.size) in
    record {
      size = length-set items b new ∙ h.size;
      at = λ c l. elim (cases_eq c b) [
        | inl same ↦
            let yes : is_unsound_in g image b row ≡ true = ap (λ t. t && is_broken_page (slice_get image row)) (ap (λ k. k == b) (sym block) ∙ eq-eqb b b refl) ∙ at_row image row p true is e in
            let old : new ≡ unsound_below g image row b + 1 = more ∙ ap (λ k. k + 1) (get_or_default items b d 0 in_items ∙ h.at b within) in
            subst (λ k. get_or (set items b new) k 0 ≡ unsound_below g image (row + 1) k) (sym same)
            (get_or-set_same items b new 0 in_items ∙ (old ∙ sym (below_more g image row b ∙ ap (λ t. unsound_below g image row b + one_if t) yes)))
        | inr ne ↦
            get_or-set_other items b c new 0 ne ∙ (h.at c l ∙ sym (below_same g image row c (ap (λ t. t && is_broken_page (slice_get image row)) (ne_eqb (row / g.pages) c (λ x. ne (sym x ∙ sym block))))))
      ];
    }

pub unsound_start : (g : Geometry) (image : Image) (items : List ℕ) → items ≡ replicate g.blocks 0 → HasUnsound g image 0 items
unfolding unsound_below
unsound_start g image items e = record {
  size = ap length e ∙ length-replicate g.blocks 0;
  at = λ b l. ap (λ xs. get_or xs b 0) e ∙ get_or-replicate g.blocks b 0 0 l;
}

pub few_start : (n : ℕ) → All (λ x. x ≤ 0) (replicate n 0)
few_start n i d l = let none : ℕ = 0 in let here = get_or-replicate n i none d (omega (arith, length-replicate n none)) in omega arith

pub few_rows : (m n : ℕ) (items : List ℕ) → m ≤ n → All (λ x. x ≤ m) items → All (λ x. x ≤ n) items
few_rows m n items l h i d k = let a = h i d k in omega arith

-- ---- broken pages

pub whole_erased : (p : Page) → is_erased_page p ≡ true → is_broken p ≡ false
whole_erased p e = ap (λ b. not b && not (is_some (record_of p))) e

pub whole_sound : (p : Page) → is_some (record_of p) ≡ true → is_broken p ≡ false
whole_sound p e = ap (λ b. not (is_erased_page p) && not b) e ∙ no_right (not (is_erased_page p))

pub broken_of : (p : Page) → is_erased_page p ≡ false → is_some (record_of p) ≡ false → is_broken p ≡ true
broken_of p e n = ap (λ b. not b && not (is_some (record_of p))) e ∙ ap (λ b. not b) n

-- ---- each page is of one sort

kind_one : (k : Kind) → one_if (code_of_kind k == 1) + one_if (code_of_kind k == 2) + one_if (code_of_kind k == 3) + one_if (code_of_kind k == 4) ≡ 1
kind_one kind.Sector = refl
kind_one kind.Trim = refl
kind_one kind.Translation = refl
kind_one kind.Table = refl

sort_one : (found : Option Record) (erased : Bool) → (erased ≡ true → found ≡ None)
    → one_if (is_of_kind kind.Sector found) + one_if (is_of_kind kind.Trim found) + one_if (is_of_kind kind.Translation found) + one_if
    (is_of_kind kind.Table found) + one_if erased + one_if (not erased && not (is_some found)) ≡ 1
sort_one None true h = refl
sort_one None false h = refl
sort_one (Some r) true h = absurd (let clash : Some r ≡ None = h refl in cc)
sort_one (Some r) false h = let k = kind_one r.kind in omega arith

pub sorts : SortsLaw
unfolding page_counts_of
sorts g image c e = rw e (sum image)
  where
    sum : (ps : List Page)
        → count_by (λ p. is_of_kind kind.Sector (record_of p)) ps + count_by (λ p. is_of_kind kind.Trim (record_of p)) ps + count_by
        (λ p. is_of_kind kind.Translation (record_of p)) ps + count_by (λ p. is_of_kind kind.Table (record_of p)) ps + count_by is_erased_page ps
        + count_by is_broken ps ≡ length ps
    sum [] = refl
    sum (p ∷ ps) =
        let rest = sum ps in
        let here = sort_one (record_of p) (is_erased_page p) (erased_no_record p) in
        let a1 = sum_by-cons (λ q. cond (is_of_kind kind.Sector (record_of q)) 1 0) p ps in
        let a2 = sum_by-cons (λ q. cond (is_of_kind kind.Trim (record_of q)) 1 0) p ps in
        let a3 = sum_by-cons (λ q. cond (is_of_kind kind.Translation (record_of q)) 1 0) p ps in
        let a4 = sum_by-cons (λ q. cond (is_of_kind kind.Table (record_of q)) 1 0) p ps in
        let a5 = sum_by-cons (λ q. cond (is_erased_page q) 1 0) p ps in
        let a6 = sum_by-cons (λ q. cond (is_broken q) 1 0) p ps in
        omega arith
