use Rattle.std.proofs.Common.{◌≡◌, ◌<◌, ℕ, false}
use Rattle.bad_blocks.specs.Table.{is_good_at, unworn}
use Rattle.mount.proofs.format_tables.lowest_good.Given as goal

abbrev pub invariant-loop-block : goal.invariant-loop-block
invariant-loop-block l = (lower : ℕ) → lower < l.block → is_good_at (unworn l.classes) lower ≡ false
