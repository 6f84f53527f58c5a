use Rattle.std.proofs.Common.{◌≡◌, ◌<◌, ◌≤◌, ℕ, true, None, Ok}
use Rattle.collection.specs.Safe.{ram, image_in}
use Rattle.collection.specs.Truth.{IsTrue}
use Rattle.collection.specs.Renew.{HasNoneDue}
use Rattle.collection.specs.Acts.{EngineLooks}
use Rattle.collection.proofs.engine.Engine.look_for_due.Given as goal

abbrev pub invariant-rows : goal.invariant-rows
invariant-rows g l = record {
  looks : EngineLooks {A = Unit {0}} g.N.PageSource.view l.fn.self l.self (Ok tt);
  truth : g.N.PageSource.view.honest l.fn.self.nand ≡ true → IsTrue None (ram l.fn.self) (image_in g.N.PageSource.view.flash l.fn.self) → (q : ℕ) → l.from ≤ q → q < l.row → HasNoneDue q (image_in g.N.PageSource.view.flash l.fn.self);
}
