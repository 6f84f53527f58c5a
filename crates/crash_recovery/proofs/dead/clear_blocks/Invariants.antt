use Rattle.std.proofs.Common.{◌≡◌, true}
use Rattle.crash_recovery.specs.Asked.{KeepsAsked}
use Rattle.crash_recovery.specs.Taken.{IsOf, LeavesErased, Takes}
use Rattle.crash_recovery.proofs.BlockLemmas.{IsOfBelow}
use Rattle.crash_recovery.proofs.dead.clear_blocks.Given as goal

abbrev pub invariant-loop-block : goal.invariant-loop-block
invariant-loop-block g l = record {
  takes : g.S.Store.honest l.fn.store ≡ true → Takes (IsOf l.geometry l.dead) (g.S.Store.held l.fn.store) (g.S.Store.held l.store);
  erased : g.S.Store.honest l.fn.store ≡ true → LeavesErased (IsOfBelow l.geometry l.dead l.block) (g.S.Store.held l.store);
  keeps : KeepsAsked g.S.Store.held g.S.Store.honest g.S.Store.failed l.fn.store true l.store;
}
