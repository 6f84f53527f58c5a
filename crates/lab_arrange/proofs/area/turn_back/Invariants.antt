use Rattle.std.proofs.Common.{◌≡◌, ◌<◌, ◌≤◌, ℕ, get_or, length}
use Rattle.lab_arrange.specs.Place.{value_of}
use Rattle.lab_arrange.proofs.area.turn_back.Given as goal

abbrev pub invariant-loop-i : goal.invariant-loop-i
invariant-loop-i l = record {
  size : length l.bytes ≡ length l.fn.bytes;
  before : (k : ℕ) → k < l.i → get_or l.bytes k 0 ≡ value_of l.inverted (get_or l.fn.bytes k 0);
  behind : (k : ℕ) → l.i ≤ k → get_or l.bytes k 0 ≡ get_or l.fn.bytes k 0;
}
