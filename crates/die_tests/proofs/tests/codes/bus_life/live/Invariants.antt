use Rattle.std.proofs.Common.{◌≡◌}
use Rattle.die_tests.proofs.tests.codes.bus_life.live.Given as goal

abbrev pub invariant-changes : goal.invariant-changes
invariant-changes g l = (g.N.PageSource.view.flash l.nand).geometry ≡ l.geometry
