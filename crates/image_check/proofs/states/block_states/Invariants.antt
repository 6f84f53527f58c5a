use Rattle.std.proofs.Common.{◌≤◌, length, vec_capacity}
use Rattle.image_check.proofs.StateLemmas.{AreStatesTo}
use Rattle.image_check.proofs.states.block_states.Given as goal

abbrev pub invariant-loop-block : goal.invariant-loop-block
invariant-loop-block l = record {
  made : AreStatesTo l.table l.looks l.counts l.block l.states.items;
  room : length l.looks ≤ vec_capacity l.states;
}
