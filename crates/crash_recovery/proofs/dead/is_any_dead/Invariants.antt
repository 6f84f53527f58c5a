use Rattle.std.proofs.Common.{◌≡◌, ℕ, ◌<◌, get_or, false}
use Rattle.crash_recovery.proofs.dead.is_any_dead.Given as goal

abbrev pub invariant-loop-is_dead : goal.invariant-loop-is_dead
invariant-loop-is_dead l = (k : ℕ) → k < l.is_dead-index → get_or l.dead k false ≡ false
