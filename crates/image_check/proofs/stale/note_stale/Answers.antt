use Rattle.std.proofs.Common.{◌≡◌, ◌≤◌, ◌-◌, ◌+◌, ◌++◌, ℕ, Bool, true, false, [], ◌∷◌, get_or, arith, ap, sym, ◌∙◌, subst}
use Rattle.std.specs.Prelude.{not}
use Rattle.std.proofs.lemmas.List.{get_or_default}
use Rattle.image_check.specs.Newest.{place_in, no_newest}
use Rattle.translation_pages.specs.TranslationPage.{entry_at}
use Rattle.image_check.specs.Stale.{same_row}
use Rattle.image_check.specs.Rising.{IsRisingBelow}
use Rattle.image_check.proofs.StaleLemmas.{noted_more, noted_same, rising_more, rising_same, rising_up, test_true, test_false}
use Rattle.image_check.proofs.stale.note_stale.Goals.{then-not-same_row+in_ok-push, else-not-same_row}
use Rattle.image_check.proofs.stale.note_stale.Goals as goal

pub loop-sector-preserved : goal.loop-sector-preserved
loop-sector-preserved c =
    let n = c.loop-sector.sector in
    let first = c.args.first in
    let inv = c.loop-sector.invariant in
    let p : ℕ → Bool = λ k. not (same_row (entry_at c.args.page.now (k - first)) (place_in (get_or c.args.newest.now k no_newest))) in
    let order : first ≤ n = omega arith in
    let seen : c.row-newest_row.result ≡ place_in (get_or c.args.newest.now n no_newest) = c.row-newest_row.ensures ∙ ap place_in (get_or_default c.args.newest.now n _ no_newest (omega arith)) in
    elim c.if-not-same_row.branch [
      | then-not-same_row+in_ok-push w ↦
          let is : c.if-not-same_row.stale.items ≡ c.loop-sector.stale.items ++ n ∷ [] = ap (λ v. v.items) w.stale-is ∙ w.in_ok-push.ensures.items in
          let test : p n ≡ true = test_true c.entry.result c.row-newest_row.result _ _ (c.same_row.ensures.no w.if-not-same_row.true) c.entry.ensures.value seen in
          record {
            noted = noted_more p first n c.args.stale.now.items c.loop-sector.stale.items c.if-not-same_row.stale.items order inv.noted is test;
            rising = λ h. rising_more n c.loop-sector.stale.items c.if-not-same_row.stale.items is (inv.rising h);
          }
      | else-not-same_row w ↦
          let is : c.if-not-same_row.stale.items ≡ c.loop-sector.stale.items = ap (λ v. v.items) w.stale-is in
          let test : p n ≡ false = test_false c.entry.result c.row-newest_row.result _ _ (c.same_row.ensures.yes w.if-not-same_row.false) c.entry.ensures.value seen in
          record {
            noted = is ∙ noted_same p first n c.args.stale.now.items c.loop-sector.stale.items order inv.noted test;
            rising = λ h. subst (λ xs. IsRisingBelow (n + 1) xs) (sym is) (rising_same n c.loop-sector.stale.items (inv.rising h));
          }
    ]

pub returns-clause-rising : goal.returns-clause-rising
returns-clause-rising c = λ h. rising_up c.loop-sector.sector c.args.end c.loop-sector.stale.items (omega arith) (c.loop-sector.invariant.rising h)
