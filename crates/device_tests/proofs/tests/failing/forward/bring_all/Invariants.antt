use Rattle.std.proofs.Common.{◌≡◌}
use Rattle.device_tests.proofs.tests.failing.forward.bring_all.Given as goal

abbrev pub invariant-loop-nth : goal.invariant-loop-nth
invariant-loop-nth g l = (g.N.PageSource.view.flash l.nand).geometry ≡ l.geometry
