use Rattle.std.proofs.Common.{ℕ, ◌<◌, ◌≤◌}
use Rattle.mapping_cache.proofs.Runs.{IsApart}
use Rattle.mapping_cache.proofs.moved.lowest_over.Given as goal

abbrev pub invariant-loop-last : goal.invariant-loop-last
invariant-loop-last l = (k : ℕ) → l.apart ≤ k → k < l.last → IsApart l.per_page l.apart l.moved k
