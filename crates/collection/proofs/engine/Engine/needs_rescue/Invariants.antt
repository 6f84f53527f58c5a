use Rattle.std.proofs.Common.{◌≡◌, ◌<◌, ℕ, false}
use Rattle.bad_blocks.specs.Table.{is_good_at}
use Rattle.allocation.specs.State.{live_at}
use Rattle.collection.specs.Safe.{ram}
use Rattle.collection.proofs.engine.Engine.needs_rescue.Given as goal

abbrev pub invariant-numbers : goal.invariant-numbers
invariant-numbers g l = (b : ℕ) → b < l.block → is_good_at (ram l.self).blocks.table b ≡ false → live_at (ram l.self).blocks b ≡ 0
