use Rattle.std.proofs.Common.{◌≡◌}
use Rattle.die_tests.proofs.tests.cycles.operations.ask_each.Given as goal

abbrev pub invariant-loop-step : goal.invariant-loop-step
invariant-loop-step g l = (g.N.PageSource.view.flash l.nand).geometry ≡ (g.N.PageSource.view.flash l.fn.nand).geometry
