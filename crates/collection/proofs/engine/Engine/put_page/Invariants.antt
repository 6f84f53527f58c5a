use Rattle.std.proofs.Common.{◌≡◌, ◌-◌, true, Ok}
use Rattle.budget.specs.Stream.{stream_of}
use Rattle.collection.specs.Safe.{ram, image_in}
use Rattle.collection.specs.Cost.{HasTried}
use Rattle.collection.specs.Acts.{EngineActs, OnlyPrograms}
use Rattle.page_layout.specs.Change.{Keeps}
use Rattle.collection.specs.Stops.{Stops}
use Rattle.collection.specs.Results.{MayPut, IsImageKept, GoesPut}
use Rattle.collection.proofs.engine.Engine.put_page.Given as goal

abbrev pub invariant-tries : goal.invariant-tries
invariant-tries g l = record {
  acts : EngineActs {A = Unit {0}} g.N.PageSource.view l.initial.self l.self (Ok tt);
  goes : GoesPut (ram l.initial.self) (ram l.self);
  page : l.self.page.body ≡ l.initial.self.page.body;
  scratch : l.self.scratch ≡ l.initial.self.scratch;
  only_programs : OnlyPrograms g.N.PageSource.view l.initial.self.nand l.self.nand;
  tried : HasTried (stream_of l.kind) (ram l.initial.self) (ram l.self);
  truth : g.N.PageSource.view.honest l.initial.self.nand ≡ true
      → MayPut l.kind l.number l.old_row l.initial.self.page.body.items (ram l.initial.self) (image_in g.N.PageSource.view.flash l.initial.self)
      → IsImageKept (ram l.initial.self) (image_in g.N.PageSource.view.flash l.initial.self) (ram l.self) (image_in g.N.PageSource.view.flash l.self);
  stops : g.N.PageSource.view.honest l.initial.self.nand ≡ true → MayPut l.kind l.number l.old_row l.initial.self.page.body.items (ram l.initial.self) (image_in g.N.PageSource.view.flash l.initial.self)
      → Stops g.N.PageSource.view (Keeps l.initial.self.geometry (image_in g.N.PageSource.view.flash l.initial.self)) l.initial.self l.self;
}

abbrev pub decreases-tries : goal.decreases-tries
decreases-tries g l = 18446744073709551615 - l.self.next
