use Rattle.std.proofs.Common.{◌≡◌, true}
use Rattle.crash_recovery.specs.Asked.{HasLooked}
use Rattle.crash_recovery.proofs.LookLemmas.{SoundBelow}
use Rattle.crash_recovery.proofs.look.sound_run.Given as goal

abbrev pub invariant-loop-k : goal.invariant-loop-k
invariant-loop-k g l = record {
  looks : HasLooked g.S.Store.held g.S.Store.honest g.S.Store.failed l.fn.store true l.store;
  sound : g.S.Store.honest l.fn.store ≡ true → SoundBelow l.geometry (g.S.Store.held l.fn.store).pages l.block l.k;
}
