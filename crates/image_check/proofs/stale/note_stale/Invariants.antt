use Rattle.std.proofs.Common.{◌≡◌, ◌-◌, ◌++◌, get_or}
use Rattle.std.specs.Prelude.{filter, not}
use Rattle.std.specs.List.{range_with_len}
use Rattle.image_check.specs.Newest.{place_in, no_newest}
use Rattle.translation_pages.specs.TranslationPage.{entry_at}
use Rattle.image_check.specs.Stale.{same_row}
use Rattle.image_check.specs.Rising.{IsRisingBelow}
use Rattle.image_check.proofs.stale.note_stale.Given as goal

abbrev pub invariant-loop-sector : goal.invariant-loop-sector
invariant-loop-sector l = record {
  noted : l.stale.items ≡ l.fn.stale.items ++ filter (λ n. not (same_row (entry_at l.page (n - l.first)) (place_in (get_or l.newest n no_newest)))) (range_with_len l.first (l.sector - l.first));
  rising : IsRisingBelow l.first l.fn.stale.items → IsRisingBelow l.sector l.stale.items;
}
