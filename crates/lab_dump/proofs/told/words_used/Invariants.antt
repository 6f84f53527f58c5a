use Rattle.std.proofs.Common.{◌≡◌, ◌≤◌}
use Rattle.lab_dump.proofs.ToldLemmas.{used_below}
use Rattle.lab_dump.proofs.told.words_used.Given as goal

abbrev pub invariant-loop-i : goal.invariant-loop-i
invariant-loop-i l = record {
  few : l.used ≤ l.i;
  used : l.used ≡ used_below l.body l.i;
}
