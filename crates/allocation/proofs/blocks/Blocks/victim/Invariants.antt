use Rattle.std.proofs.Common.{◌≡◌, ℕ, ◌<◌, false, MatchOption}
use Rattle.allocation.specs.State.{is_closed}
use Rattle.allocation.specs.Step.{IsVictim}
use Rattle.allocation.specs.View.{state}
use Rattle.allocation.proofs.blocks.Blocks.victim.Given as goal

abbrev pub invariant-candidates : goal.invariant-candidates
invariant-candidates l = MatchOption l.best ((b : ℕ) → b < l.block → is_closed (state l.self) b ≡ false) (IsVictim (state l.self) l.block)
