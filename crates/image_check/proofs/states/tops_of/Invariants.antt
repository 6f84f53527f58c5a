use Rattle.std.proofs.Common.{true, false}
use Rattle.image_check.specs.States.{IsTop}
use Rattle.image_check.proofs.states.tops_of.Given as goal

abbrev pub invariant-loop-block : goal.invariant-loop-block
invariant-loop-block l = record {
  «data» : IsTop l.table l.looks l.block true l.tops.data;
  meta : IsTop l.table l.looks l.block false l.tops.meta;
}
