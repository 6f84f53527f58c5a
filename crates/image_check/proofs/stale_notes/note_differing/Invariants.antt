use Rattle.std.proofs.Common.{◌≡◌, ◌-◌, ◌++◌, ℕ, List}
use Rattle.std.specs.Prelude.{filter, not}
use Rattle.std.specs.List.{range_with_len}
use Rattle.translation_pages.specs.TranslationPage.{entry_at}
use Rattle.image_check.specs.Stale.{same_row}
use Rattle.image_check.specs.Noted.{claimed, IsKept}
use Rattle.image_check.proofs.stale_notes.note_differing.Given as goal

abbrev pub invariant-loop-sector : goal.invariant-loop-sector
invariant-loop-sector l = record {
  kept : (before : List ℕ) → IsKept before l.fn.noted → IsKept (before ++ filter (λ n. not (same_row (entry_at l.page (n - l.first)) (claimed l.certificate.sectors n))) (range_with_len l.first (l.sector - l.first))) l.noted;
  most : l.noted.most ≡ l.fn.noted.most;
}
