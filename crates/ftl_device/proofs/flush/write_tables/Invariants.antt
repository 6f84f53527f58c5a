use Rattle.std.proofs.Common.{◌≡◌, ◌≤◌, true, Ok}
use Rattle.bad_blocks.specs.Table.{good_count}
use Rattle.collection.specs.Safe.{ram, image_in}
use Rattle.collection.specs.Left.{LeavesPin}
use Rattle.ftl_device.proofs.FlushLoops.{HasRounds, SpellsWhere}
use Rattle.ftl_device.proofs.FlushStepLemmas.{IsInRounds}
use Rattle.ftl_device.specs.Calls.{Knows}
use Rattle.ftl_device.specs.Changes.{EngineLeaves}
use Rattle.ftl_device.proofs.flush.write_tables.Given as goal

abbrev pub invariant-rounds : goal.invariant-rounds
invariant-rounds g l = record {
  leaves : EngineLeaves {A = Unit {0}} g.N.PageSource.view l.fn.engine (Ok tt) l.engine;
  mapping : l.engine.mapping ≡ l.fn.engine.mapping;
  beside : LeavesPin (ram l.fn.engine) (ram l.engine);
  most : l.good ≤ good_count (ram l.fn.engine).blocks.table;
  fewer : good_count (ram l.engine).blocks.table ≤ l.good;
  cost : HasRounds l.good (ram l.fn.engine) (ram l.engine);
  rounds : IsInRounds g.N.PageSource.view l.good l.fn.engine l.engine;
  truth : g.N.PageSource.view.honest l.fn.engine.nand ≡ true → Knows (ram l.fn.engine) (image_in g.N.PageSource.view.flash l.fn.engine) → SpellsWhere l.good l.fn.engine.geometry (image_in g.N.PageSource.view.flash l.fn.engine) (ram l.engine) (image_in g.N.PageSource.view.flash l.engine);
}

abbrev pub decreases-rounds : goal.decreases-rounds
decreases-rounds g l = l.good
