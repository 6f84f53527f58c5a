use Rattle.std.proofs.Common.{◌≡◌, ◌*◌, List, ℕ, length, min, Some}
use Rattle.lab_dump.specs.Nearest.{nearest_below}
use Rattle.lab_dump.proofs.nearest.find_nearest.Given as goal

abbrev pub invariant-loop-stride : goal.invariant-loop-stride
invariant-loop-stride g l = record {
  room : length l.room.bytes.items ≡ 65575;
  same : g.D.Dump.bytes l.dump ≡ g.D.Dump.bytes l.fn.dump;
  nearest : (all : List ℕ) → g.D.Dump.bytes l.fn.dump ≡ Some all → l.nearest ≡ nearest_below all (min (l.stride * 65536) l.size);
}
