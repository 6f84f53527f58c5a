use Rattle.std.proofs.Common.{ℕ, ◌<◌}
use Rattle.disk_commands.specs.Shapes.{HasBlocksForFormat}
use Rattle.disk_commands.proofs.shapes.least_blocks.Given as goal

abbrev pub invariant-loop-blocks : goal.invariant-loop-blocks
invariant-loop-blocks l = (fewer : ℕ) → fewer < l.blocks → ¬ HasBlocksForFormat l.pages l.share l.sectors fewer
