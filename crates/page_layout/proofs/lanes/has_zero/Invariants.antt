use Rattle.std.proofs.Common.{◌≡◌, ◌*◌, false, take}
use Rattle.page_layout.specs.Bytes.{has_zero}
use Rattle.page_layout.proofs.lanes.has_zero.Given as goal

abbrev pub invariant-loop-i : goal.invariant-loop-i
invariant-loop-i l = has_zero (take (l.i * 32) l.bytes) ≡ false
