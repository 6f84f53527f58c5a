use Rattle.std.proofs.Common.{◌≡◌, ◌⊎◌, ◌≤◌, ℕ, true, None, Ok}
use Rattle.budget.specs.Spending.{IsFunded}
use Rattle.allocation.specs.Counts.{counts_of}
use Rattle.allocation.specs.State.{free_count}
use Rattle.collection.specs.Safe.{ram, image_in}
use Rattle.collection.specs.Left.{PinHasPassed, PinIsFew}
use Rattle.collection.specs.Truth.{IsTrue}
use Rattle.collection.specs.Acts.{EngineActs}
use Rattle.collection.specs.Room.{IsFundedOn, MakesRoom}
use Rattle.collection.specs.Whole.{work_left}
use Rattle.collection.specs.Stops.{IsLeftByStop, Stops}
use Rattle.collection.proofs.engine.Engine.regain.Given as goal

abbrev pub invariant-rounds : goal.invariant-rounds
invariant-rounds g l = record {
  acts : EngineActs {A = Unit {0}} g.N.PageSource.view l.fn.self l.self (Ok tt);
  makes : MakesRoom g.N.PageSource.view l.many l.flushing l.fn.self l.self (Ok tt);
  unpinned : (l.many ≤ free_count (ram l.self).blocks) ⊎ (l.self.pinned ≡ None);
  count : g.N.PageSource.view.honest l.fn.self.nand ≡ true → IsTrue None (ram l.fn.self) (image_in g.N.PageSource.view.flash l.fn.self)
      → PinHasPassed (ram l.fn.self) (image_in g.N.PageSource.view.flash l.fn.self) → PinIsFew 0 (ram l.fn.self) → (failures : ℕ)
      → IsFunded l.fn.self.geometry.pages failures (counts_of (ram l.fn.self).blocks) → IsFundedOn failures (ram l.fn.self) (ram l.self);
  stops : g.N.PageSource.view.honest l.fn.self.nand ≡ true → IsTrue None (ram l.fn.self) (image_in g.N.PageSource.view.flash l.fn.self) → PinHasPassed (ram l.fn.self) (image_in g.N.PageSource.view.flash l.fn.self)
      → Stops g.N.PageSource.view (IsLeftByStop (ram l.fn.self) (image_in g.N.PageSource.view.flash l.fn.self) (image_in g.N.PageSource.view.flash l.self)) l.fn.self l.self;
}

abbrev pub decreases-rounds : goal.decreases-rounds
decreases-rounds g l = work_left (ram l.self)
