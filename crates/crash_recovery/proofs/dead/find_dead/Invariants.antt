use Rattle.std.proofs.Common.{◌≡◌, ℕ, true}
use Rattle.image_check.specs.Agrees.{Agrees}
use Rattle.crash_recovery.specs.Asked.{HasLooked}
use Rattle.crash_recovery.specs.Torn.{FindsDead}
use Rattle.crash_recovery.proofs.dead.find_dead.Given as goal

abbrev pub invariant-loop-block : goal.invariant-loop-block
invariant-loop-block g l = record {
  looks : HasLooked g.S.Store.held g.S.Store.honest g.S.Store.failed l.fn.store true l.store;
  finds : g.S.Store.honest l.fn.store ≡ true → (capacity : ℕ) → Agrees l.geometry capacity (g.S.Store.held l.fn.store).pages l.certificate → FindsDead l.geometry (g.S.Store.held l.fn.store).pages l.block l.dead;
}
