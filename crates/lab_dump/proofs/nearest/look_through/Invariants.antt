use Rattle.std.proofs.Common.{◌≡◌, ◌+◌, List, ℕ}
use Rattle.lab_dump.specs.Nearest.{HasBehind, nearest_below}
use Rattle.lab_dump.proofs.nearest.look_through.Given as goal

abbrev pub invariant-loop-place : goal.invariant-loop-place
invariant-loop-place l = record {
  nearest : (all : List ℕ) → HasBehind all l.first l.places l.bytes → l.fn.nearest ≡ nearest_below all l.first → l.nearest ≡ nearest_below all (l.first + l.place);
}
