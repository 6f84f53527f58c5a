use Rattle.std.proofs.Common.{◌≡◌}
use Rattle.device_tests.proofs.tests.server.plain.hold_restarts.Given as goal

abbrev pub invariant-loop-capacity : goal.invariant-loop-capacity
invariant-loop-capacity g l = (g.N.PageSource.view.flash l.nand).geometry ≡ l.geometry
