use Rattle.std.proofs.Common.{◌≡◌}
use Rattle.die_tests.proofs.tests.mounts.format_rows.hold_untouched.Given as goal

abbrev pub invariant-loop-row : goal.invariant-loop-row
invariant-loop-row g l = (g.S.PageSource.view.flash l.source).geometry ≡ l.geometry
