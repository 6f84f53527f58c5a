use Rattle.std.proofs.Common.{◌≡◌, ℕ, ◌<◌, false, MatchOption}
use Rattle.allocation.specs.State.{is_free}
use Rattle.allocation.specs.Step.{IsLeastWorn}
use Rattle.allocation.specs.View.{state}
use Rattle.allocation.proofs.blocks.Blocks.least_worn.Given as goal

abbrev pub invariant-candidates : goal.invariant-candidates
invariant-candidates l = MatchOption l.best ((b : ℕ) → b < l.block → is_free (state l.self) b ≡ false) (IsLeastWorn (state l.self) l.block)
