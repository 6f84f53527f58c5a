use Rattle.std.proofs.Common.{◌≡◌}
use Rattle.device_tests.proofs.tests.failing.script.give_row.Given as goal

abbrev pub invariant-loop-its : goal.invariant-loop-its
invariant-loop-its l = l.driver.geometry ≡ l.geometry
