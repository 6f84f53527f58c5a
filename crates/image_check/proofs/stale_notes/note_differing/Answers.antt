use Rattle.std.proofs.Common.{◌≡◌, ◌-◌, ◌+◌, ◌++◌, ◌≤◌, ℕ, Bool, true, false, arith, sym, ap, subst, ◌∙◌}
use Rattle.std.specs.Prelude.{filter, not}
use Rattle.std.specs.List.{range_with_len}
use Rattle.translation_pages.specs.TranslationPage.{entry_at}
use Rattle.image_check.specs.Stale.{same_row}
use Rattle.image_check.specs.declared.noted_sectors.Noted.{Noted}
use Rattle.image_check.specs.Noted.{claimed, IsKept}
use Rattle.image_check.proofs.StaleLemmas.{test_true, test_false}
use Rattle.image_check.proofs.NotedLemmas.{kept_more, kept_same, kept_none, claimed_at}
use Rattle.image_check.proofs.stale_notes.note_differing.Goals.{then-not-same_row, else-not-same_row}
use Rattle.image_check.proofs.stale_notes.note_differing.Goals as goal

pub loop-sector-init : goal.loop-sector-init
loop-sector-init c = record {
  kept = λ before h. kept_none (λ n. not (same_row (entry_at c.args.page.now (n - c.args.first)) (claimed c.args.certificate.now.sectors n))) c.args.first before c.args.noted.now h;
  most = omega arith;
}

pub loop-sector-preserved : goal.loop-sector-preserved
loop-sector-preserved c =
    let n = c.loop-sector.sector in
    let first = c.args.first in
    let inv = c.loop-sector.invariant in
    let rows = c.args.certificate.now.sectors in
    let p : ℕ → Bool = λ k. not (same_row (entry_at c.args.page.now (k - first)) (claimed rows k)) in
    let order : first ≤ n = omega arith in
    let row : c.sector_row.result ≡ claimed rows n = sym (claimed_at rows n c.sector_row.result c.sector_row.ensures.is) in
    elim c.if-not-same_row.branch [
      | then-not-same_row w ↦
          let test : p n ≡ true = test_true c.entry.result c.sector_row.result _ _ (c.same_row.ensures.no w.if-not-same_row.true) c.entry.ensures.value row in
          record {
            kept = λ before h. subst (λ y. IsKept (before ++ filter p (range_with_len first (n + 1 - first))) y) (sym w.noted-is) (kept_more p first n before c.loop-sector.noted w.note.new.self order test (inv.kept before h) w.note.ensures.noted);
            most = ap (λ (y : Noted). y.most) w.noted-is ∙ (w.note.ensures.most ∙ inv.most);
          }
      | else-not-same_row w ↦
          let test : p n ≡ false = test_false c.entry.result c.sector_row.result _ _ (c.same_row.ensures.yes w.if-not-same_row.false) c.entry.ensures.value row in
          record {
            kept = λ before h. subst (λ y. IsKept (before ++ filter p (range_with_len first (n + 1 - first))) y) (sym w.noted-is) (kept_same p first n before c.loop-sector.noted order test (inv.kept before h));
            most = ap (λ (y : Noted). y.most) w.noted-is ∙ inv.most;
          }
    ]
