use Rattle.std.proofs.Common.{◌≡◌, true}
use Rattle.crash_recovery.specs.Asked.{HasLooked}
use Rattle.crash_recovery.proofs.LookLemmas.{UnmarkedBelow}
use Rattle.crash_recovery.proofs.look.none_is_marked.Given as goal

abbrev pub invariant-loop-k : goal.invariant-loop-k
invariant-loop-k g l = record {
  looks : HasLooked g.S.Store.held g.S.Store.honest g.S.Store.failed l.fn.store true l.store;
  unmarked : g.S.Store.honest l.fn.store ≡ true → UnmarkedBelow l.geometry (g.S.Store.held l.fn.store).pages l.mark l.block l.from l.k;
}
