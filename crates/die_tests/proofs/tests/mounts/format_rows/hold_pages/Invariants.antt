use Rattle.std.proofs.Common.{◌≡◌}
use Rattle.die_tests.proofs.tests.mounts.format_rows.hold_pages.Given as goal

abbrev pub invariant-loop-page : goal.invariant-loop-page
invariant-loop-page g l = (g.S.PageSource.view.flash l.source).geometry ≡ l.geometry
