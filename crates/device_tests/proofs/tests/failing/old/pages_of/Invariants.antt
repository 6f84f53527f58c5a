use Rattle.std.proofs.Common.{◌≡◌}
use Rattle.device_tests.proofs.tests.failing.old.pages_of.Given as goal

abbrev pub invariant-loop-row : goal.invariant-loop-row
invariant-loop-row g l = (g.S.PageSource.view.flash l.source).geometry ≡ l.geometry
