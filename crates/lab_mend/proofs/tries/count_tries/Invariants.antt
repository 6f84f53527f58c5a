use Rattle.std.proofs.Common.{◌≡◌, ◌-◌, ◌^◌, take}
use Rattle.std.specs.Prelude.{min, sum_by}
use Rattle.lab_mend.specs.Tries.{differing}
use Rattle.lab_mend.proofs.tries.count_tries.Given as goal

abbrev pub invariant-loop-row : goal.invariant-loop-row
invariant-loop-row l = l.tries ≡ min (sum_by (λ r. 2 ^ differing r.trial) (take l.row-index l.tried)) (2 ^ 64 - 1)
