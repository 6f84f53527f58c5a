use Rattle.std.proofs.Common.{◌≡◌, ◌-◌, ◌*◌, ◌^◌, take}
use Rattle.std.specs.Prelude.{min, sum_by}
use Rattle.page_layout.specs.Geometry.{page_bytes}
use Rattle.lab_mend.specs.Tries.{tries_of}
use Rattle.lab_mend.proofs.tries.count_turn_tries.Given as goal

abbrev pub invariant-loop-mend : goal.invariant-loop-mend
invariant-loop-mend l = l.tries ≡ min (sum_by (λ m. tries_of (8 * page_bytes l.geometry) m.turn) (take l.mend-index l.mends)) (2 ^ 64 - 1)
