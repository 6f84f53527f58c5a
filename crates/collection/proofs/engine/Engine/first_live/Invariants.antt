use Rattle.std.proofs.Common.{◌≡◌, ◌+◌, ◌-◌, ◌*◌, ◌≤◌, min, true, None, Ok}
use Rattle.collection.specs.Safe.{ram, image_in}
use Rattle.collection.specs.Truth.{IsTrue}
use Rattle.collection.specs.Live.{HoldsNoneIn}
use Rattle.collection.specs.Acts.{EngineLooks}
use Rattle.collection.proofs.engine.Engine.first_live.Given as goal

abbrev pub invariant-candidates : goal.invariant-candidates
invariant-candidates g l = record {
  looks : EngineLooks {A = Unit {0}} g.N.PageSource.view l.fn.self l.self (Ok tt);
  reads : g.N.PageSource.view.reads l.self.nand ≤ g.N.PageSource.view.reads l.fn.self.nand + 2 * (min l.page l.fn.self.geometry.pages - l.first);
  truth : g.N.PageSource.view.honest l.fn.self.nand ≡ true → IsTrue None (ram l.fn.self) (image_in g.N.PageSource.view.flash l.fn.self) → HoldsNoneIn l.fn.self.geometry.pages l.block l.first l.page (image_in g.N.PageSource.view.flash l.fn.self);
}
