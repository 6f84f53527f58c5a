use Rattle.std.proofs.Common.{◌≡◌, ◌+◌, ◌<◌, ℕ, get_or, length}
use Rattle.lab_arrange.specs.Place.{swapped_place}
use Rattle.lab_arrange.proofs.area.take_area.Given as goal

abbrev pub invariant-loop-i : goal.invariant-loop-i
invariant-loop-i l = record {
  size : length l.area ≡ length l.fn.area;
  before : (k : ℕ) → k < l.i → get_or l.area k 0 ≡ get_or l.raw (swapped_place l.swapped (l.lead + k)) 0;
}
