use Rattle.std.proofs.Common.{◌≡◌, ◌<◌, ℕ, true, false}
use Rattle.collection.specs.Safe.{ram}
use Rattle.collection.specs.Collect.{is_due}
use Rattle.collection.proofs.engine.Engine.lowest_in_flush.Given as goal

abbrev pub invariant-pages : goal.invariant-pages
invariant-pages g l = (k : ℕ) → k < l.t → is_due true (ram l.self) k ≡ false
