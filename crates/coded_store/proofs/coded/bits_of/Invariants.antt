use Rattle.std.proofs.Common.{◌≡◌, ◌*◌, ◌≤◌, take}
use Rattle.std.specs.Prelude.{sum_by}
use Rattle.coded_store.specs.Coded.{turned_in}
use Rattle.coded_store.proofs.coded.bits_of.Given as goal

abbrev pub invariant-loop-row : goal.invariant-loop-row
invariant-loop-row l = record { most : l.bits ≤ 255 * l.row-index; is : l.bits ≡ sum_by turned_in (take l.row-index l.wrong) }
