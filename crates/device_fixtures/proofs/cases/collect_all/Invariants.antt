use Rattle.std.proofs.Common.{◌≡◌, None}
use Rattle.collection.specs.Safe.{IsSafe, ram}
use Rattle.collection.specs.Left.{IsCalm}
use Rattle.device_fixtures.proofs.cases.collect_all.Given as goal

abbrev pub invariant-loop-block : goal.invariant-loop-block
invariant-loop-block g l = record {
  safe : IsSafe g.N.PageSource.view.flash l.engine;
  calm : l.engine.fault ≡ None → IsCalm (ram l.engine);
}
