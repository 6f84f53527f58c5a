use Rattle.std.proofs.Common.{◌≡◌, true, Ok}
use Rattle.collection.specs.Safe.{ram, image_in}
use Rattle.collection.specs.Left.{LeavesPin}
use Rattle.collection.specs.Results.{KeepsTable}
use Rattle.ftl_device.specs.Flush.{KeepsTables, AddsPages}
use Rattle.ftl_device.specs.FlushSteps.{WritesFirst}
use Rattle.ftl_device.specs.Calls.{Knows}
use Rattle.ftl_device.specs.Changes.{EngineLeaves}
use Rattle.ftl_device.proofs.flush.write_tables_once.Given as goal

abbrev pub invariant-pages : goal.invariant-pages
invariant-pages g l = record {
  leaves : EngineLeaves {A = Unit {0}} g.N.PageSource.view l.initial.engine (Ok tt) l.engine;
  mapping : l.engine.mapping ≡ l.initial.engine.mapping;
  beside : LeavesPin (ram l.initial.engine) (ram l.engine);
  table : KeepsTable (ram l.initial.engine).blocks (ram l.engine).blocks;
  cost : AddsPages l.u (ram l.initial.engine) (ram l.engine);
  written : WritesFirst g.N.PageSource.view l.u l.initial.engine l.engine;
  truth : g.N.PageSource.view.honest l.initial.engine.nand ≡ true → Knows (ram l.initial.engine) (image_in g.N.PageSource.view.flash l.initial.engine)
      → KeepsTables l.u (ram l.initial.engine) (image_in g.N.PageSource.view.flash l.initial.engine) (ram l.engine)
      (image_in g.N.PageSource.view.flash l.engine);
}
