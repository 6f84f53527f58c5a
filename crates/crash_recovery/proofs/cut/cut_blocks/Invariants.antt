use Rattle.std.proofs.Common.{◌≡◌, true}
use Rattle.crash_recovery.specs.Asked.{KeepsAsked}
use Rattle.crash_recovery.specs.Torn.{IsBehind}
use Rattle.crash_recovery.specs.Taken.{LeavesErased, Takes}
use Rattle.crash_recovery.proofs.BlockLemmas.{IsBehindBelow}
use Rattle.crash_recovery.proofs.cut.cut_blocks.Given as goal

abbrev pub invariant-loop-block : goal.invariant-loop-block
invariant-loop-block g l = record {
  takes : g.S.Store.honest l.fn.store ≡ true → Takes (IsBehind l.geometry l.cuts) (g.S.Store.held l.fn.store) (g.S.Store.held l.store);
  erased : g.S.Store.honest l.fn.store ≡ true → LeavesErased (IsBehindBelow l.geometry l.cuts l.block) (g.S.Store.held l.store);
  keeps : KeepsAsked g.S.Store.held g.S.Store.honest g.S.Store.failed l.fn.store true l.store;
}
