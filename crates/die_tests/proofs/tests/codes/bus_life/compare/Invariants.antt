use Rattle.std.proofs.Common.{◌≡◌}
use Rattle.die_tests.proofs.tests.codes.bus_life.compare.Given as goal

abbrev pub invariant-loop-i : goal.invariant-loop-i
invariant-loop-i g l = (g.N.PageSource.view.flash l.nand).geometry ≡ l.geometry
