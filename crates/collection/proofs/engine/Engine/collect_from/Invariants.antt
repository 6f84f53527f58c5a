use Rattle.std.proofs.Common.{◌≡◌, ◌+◌, ◌≤◌, ◌-◌, true, Some, None, Ok, length}
use Rattle.allocation.specs.State.{is_closed}
use Rattle.collection.specs.Safe.{ram, image_in}
use Rattle.collection.specs.Truth.{IsTrue}
use Rattle.collection.specs.Acts.{EngineActs}
use Rattle.collection.specs.Results.{Goes}
use Rattle.collection.specs.Collect.{waiting, KeepsKeys, Refreshes}
use Rattle.collection.specs.Left.{HasPassedNoNewest}
use Rattle.collection.specs.Whole.{HasReadFewPages, IsUnderWay}
use Rattle.collection.specs.Stops.{IsLeftByStop, Stops}
use Rattle.collection.proofs.engine.Engine.collect_from.Given as goal

abbrev pub invariant-steps : goal.invariant-steps
invariant-steps g l = record {
  acts : EngineActs {A = Unit {0}} g.N.PageSource.view l.fn.self l.self (Ok tt);
  goes : Goes (ram l.fn.self) (ram l.self);
  as_erased : g.N.PageSource.view.erases l.self.nand ≡ g.N.PageSource.view.erases l.fn.self.nand;
  keys : KeepsKeys l.fn.self.mapping l.self.mapping;
  refreshes : l.flushing ≡ true → Refreshes (ram l.fn.self) (ram l.self);
  pinned : l.self.pinned ≡ Some (record { block = l.fn.pinned.block; first = l.first });
  room : length l.self.mapping.moved ≤ waiting (ram l.self) + l.first;
  closed : is_closed (ram l.self).blocks l.fn.pinned.block ≡ true;
  reads : HasReadFewPages l.flushing l.fn.pinned.first l.first (ram l.fn.self) (ram l.self) (g.N.PageSource.view.reads l.fn.self.nand) (g.N.PageSource.view.reads l.self.nand);
  under_way : IsUnderWay l.flushing l.fn.pinned.block l.first (ram l.fn.self) (ram l.self)
      ((g.N.PageSource.view.honest l.fn.self.nand ≡ true) × IsTrue None (ram l.fn.self) (image_in g.N.PageSource.view.flash l.fn.self)
      × HasPassedNoNewest (ram l.fn.self) (image_in g.N.PageSource.view.flash l.fn.self) l.fn.pinned) (image_in g.N.PageSource.view.flash l.fn.self)
      (image_in g.N.PageSource.view.flash l.self);
  stops : g.N.PageSource.view.honest l.fn.self.nand ≡ true → IsTrue None (ram l.fn.self) (image_in g.N.PageSource.view.flash l.fn.self) → HasPassedNoNewest (ram l.fn.self) (image_in g.N.PageSource.view.flash l.fn.self) l.fn.pinned
      → Stops g.N.PageSource.view (IsLeftByStop (ram l.fn.self) (image_in g.N.PageSource.view.flash l.fn.self) (image_in g.N.PageSource.view.flash l.self)) l.fn.self l.self;
}

abbrev pub decreases-steps : goal.decreases-steps
decreases-steps g l = 18446744073709551615 - l.self.next
