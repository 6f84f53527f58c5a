use Rattle.std.proofs.Common.{◌≡◌}
use Rattle.command_queue.proofs.LoopLemmas.{IsRunning}
use Rattle.command_queue.proofs.queue.run.Given as goal

abbrev pub invariant-loop-call : goal.invariant-loop-call
invariant-loop-call g l = record {
  running : IsRunning g.N.PageSource.view l.fn.device l.device l.fn.calls l.calls l.call-index;
  as_calm : g.N.PageSource.view.calm l.device.engine.nand ≡ g.N.PageSource.view.calm l.fn.device.engine.nand;
}
