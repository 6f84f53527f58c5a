use Rattle.std.proofs.Common.{◌≡◌, false}
use Rattle.lab_dump.specs.Concluding.{ties_in}
use Rattle.lab_dump.proofs.concluding.has_tie.Given as goal

abbrev pub invariant-loop-i : goal.invariant-loop-i
invariant-loop-i l = ties_in l.traces l.i ≡ false
