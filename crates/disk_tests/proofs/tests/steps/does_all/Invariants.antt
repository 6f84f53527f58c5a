use Rattle.std.proofs.Common.{◌≡◌, length}
use Rattle.disk_tests.proofs.tests.steps.does_all.Given as goal

abbrev pub invariant-loop-place : goal.invariant-loop-place
invariant-loop-place g l = length (g.D.Disk.contents l.disk).bytes ≡ l.size
