use Rattle.std.proofs.Common.{◌≡◌, ◌≤◌, true}
use Rattle.crash_recovery.specs.Asked.{KeepsAsked}
use Rattle.crash_recovery.specs.Taken.{IsInTail, Takes}
use Rattle.crash_recovery.proofs.TakesLemmas.{IsErasedFrom}
use Rattle.crash_recovery.proofs.cut.cut_block.Given as goal

abbrev pub invariant-loop-next : goal.invariant-loop-next
invariant-loop-next g l = record {
  takes : g.S.Store.honest l.fn.store ≡ true → Takes (IsInTail l.geometry l.block l.from) (g.S.Store.held l.fn.store) (g.S.Store.held l.store);
  erased : g.S.Store.honest l.fn.store ≡ true → IsErasedFrom l.geometry (g.S.Store.held l.store).pages l.block l.next;
  most : l.next ≤ l.geometry.pages;
  keeps : KeepsAsked g.S.Store.held g.S.Store.honest g.S.Store.failed l.fn.store true l.store;
}

abbrev pub decreases-loop-next : goal.decreases-loop-next
decreases-loop-next g l = l.next
