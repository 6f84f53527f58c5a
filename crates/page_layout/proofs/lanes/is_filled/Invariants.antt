use Rattle.std.proofs.Common.{◌≡◌, ◌*◌, false, take}
use Rattle.std.specs.List.{list_any}
use Rattle.page_layout.proofs.LaneLemmas.{is_other}
use Rattle.page_layout.proofs.lanes.is_filled.Given as goal

abbrev pub invariant-loop-i : goal.invariant-loop-i
invariant-loop-i l = list_any is_other (take (l.i * 32) l.bytes) ≡ false
