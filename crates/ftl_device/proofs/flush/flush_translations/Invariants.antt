use Rattle.std.proofs.Common.{◌≡◌, ◌<◌, ℕ, true, Ok}
use Rattle.budget.specs.Spending.{IsFunded}
use Rattle.allocation.specs.Counts.{counts_of}
use Rattle.collection.specs.Safe.{ram, image_in}
use Rattle.ftl_device.specs.Calls.{Knows}
use Rattle.ftl_device.specs.Flush.{IsClean, AddsAtMost}
use Rattle.ftl_device.specs.FlushSteps.{FlushesPages}
use Rattle.ftl_device.specs.Shortage.{FlushFunded}
use Rattle.ftl_device.specs.Changes.{FlushesOn}
use Rattle.ftl_device.proofs.flush.flush_translations.Given as goal

abbrev pub invariant-translations : goal.invariant-translations
invariant-translations g l = record {
  flushes : FlushesOn g.N.PageSource.view l.initial.engine (Ok tt) l.engine;
  clean : (t : ℕ) → t < l.t → IsClean l.initial.engine.geometry t l.engine.mapping;
  pages : FlushesPages g.N.PageSource.view l.t l.initial.engine l.engine;
  spends : 0 < l.initial.engine.mapping.share → AddsAtMost l.t (ram l.initial.engine) (ram l.engine);
  count : l.initial.engine.mapping.share ≡ 0 → g.N.PageSource.view.honest l.initial.engine.nand ≡ true → Knows (ram l.initial.engine) (image_in g.N.PageSource.view.flash l.initial.engine)
      → (failures : ℕ) → IsFunded l.initial.engine.geometry.pages failures (counts_of (ram l.initial.engine).blocks)
      → FlushFunded failures (ram l.initial.engine) (ram l.engine);
}
