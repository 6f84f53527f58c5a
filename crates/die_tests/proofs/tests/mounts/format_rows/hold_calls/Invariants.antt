use Rattle.std.proofs.Common.{◌≡◌}
use Rattle.die_tests.proofs.tests.mounts.format_rows.hold_calls.Given as goal

abbrev pub invariant-loop-call : goal.invariant-loop-call
invariant-loop-call g l = (g.N.PageSource.view.flash l.nand).geometry ≡ l.geometry
