use Rattle.std.proofs.Common.{◌≡◌, ◌<◌, ℕ, true, false, None, Ok}
use Rattle.bad_blocks.specs.Table.{is_good_at}
use Rattle.allocation.specs.State.{live_at}
use Rattle.collection.specs.Safe.{ram, image_in}
use Rattle.collection.specs.Truth.{IsTrue}
use Rattle.collection.specs.Acts.{EngineLooks}
use Rattle.collection.proofs.engine.Engine.first_ailing.Given as goal

abbrev pub invariant-numbers : goal.invariant-numbers
invariant-numbers g l = record {
  looks : EngineLooks {A = Unit {0}} g.N.PageSource.view l.fn.self l.self (Ok tt);
  truth : g.N.PageSource.view.honest l.fn.self.nand ≡ true → IsTrue None (ram l.fn.self) (image_in g.N.PageSource.view.flash l.fn.self) → (b : ℕ) → b < l.block → is_good_at (ram l.fn.self).blocks.table b ≡ false → live_at (ram l.fn.self).blocks b ≡ 0;
}
