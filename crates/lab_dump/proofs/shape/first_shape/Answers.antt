use Rattle.std.proofs.Common.{◌≡◌, ◌∙◌, ℕ, All, Bool, List, false, ap, get_or, refl, subst, sym}
use Rattle.std.specs.Prelude.{◌||◌}
use Rattle.std.proofs.lemmas.List.{take_all}
use Rattle.std.proofs.lemmas.List.Elements.{All-get_or}
use Rattle.std.proofs.lemmas.List.Folds.{list_any_at, list_any_more}
use Rattle.page_layout.specs.Limits.{IsPageCount}
use Rattle.std.specs.List.{list_any}
use Rattle.lab_dump.specs.Shape.{IsShapeOf, is_shape, page_counts}
use Rattle.lab_dump.proofs.shape.first_shape.Goals as goal

pub shape-requires-clause-page_count : goal.shape-requires-clause-page_count
unfolding page_counts
shape-requires-clause-page_count c =
    let inv = c.loop-pages.invariant in
    let i = c.loop-pages.pages-index in
    subst (λ (l : List ℕ). IsPageCount (get_or l i 0)) (sym inv.items)
    (All-get_or IsPageCount page_counts i 0 c.loop-pages-test.true (subst (λ (l : List ℕ). All IsPageCount l) inv.items inv.counts))

pub returns-in-Some-clause-some : goal.returns-in-Some-clause-some
unfolding page_counts
returns-in-Some-clause-some c =
    let a = c.args in
    let i = c.loop-pages.pages-index in
    let test : ℕ → Bool = is_shape a.size a.data_bytes a.spare_bytes in
    let fits = subst (IsShapeOf a.size a.data_bytes a.spare_bytes (get_or c.page_counts-counts.result i 0)) c.in-Some.is c.shape.ensures in
    list_any_at test page_counts i 0 c.loop-pages-test.true (ap (λ (l : List ℕ). test (get_or l i 0)) (sym c.loop-pages.invariant.items) ∙ fits.0)

pub loop-pages-preserved : goal.loop-pages-preserved
unfolding page_counts
loop-pages-preserved c =
    let a = c.args in
    let inv = c.loop-pages.invariant in
    let i = c.loop-pages.pages-index in
    let test : ℕ → Bool = is_shape a.size a.data_bytes a.spare_bytes in
    let fails : test (get_or c.page_counts-counts.result i 0) ≡ false = subst (IsShapeOf a.size a.data_bytes a.spare_bytes (get_or c.page_counts-counts.result i 0)) c.in_default.is c.shape.ensures in
    let here : test (get_or page_counts i 0) ≡ false = ap (λ (l : List ℕ). test (get_or l i 0)) (sym inv.items) ∙ fails in
    record {
      counts = inv.counts;
      items = inv.items;
      none = list_any_more test page_counts i 0 c.loop-pages-test.true ∙ (ap (λ b. b || test (get_or page_counts i 0)) inv.none ∙ here);
    }

pub loop-pages-init : goal.loop-pages-init
loop-pages-init c = record { counts = c.page_counts-counts.ensures.counts; items = c.page_counts-counts.ensures.is; none = refl }

pub returns-clause-none : goal.returns-clause-none
unfolding page_counts
returns-clause-none c =
    let a = c.args in
    let test : ℕ → Bool = is_shape a.size a.data_bytes a.spare_bytes in
    ap (list_any test) (sym (take_all c.loop-pages.pages-index page_counts c.loop-pages-test.false)) ∙ c.loop-pages.invariant.none
