use Rattle.std.proofs.Common.{◌≡◌}
use Rattle.device_fixtures.proofs.pages.hold_pages.Given as goal

abbrev pub invariant-loop-row : goal.invariant-loop-row
invariant-loop-row g l = (g.S.PageSource.view.flash l.source).geometry ≡ l.geometry
