use Rattle.std.proofs.Common.{length}
use denote.Text.{Utf8}
use denote.Shadow.{shadow}
use Rattle.disk_commands.proofs.BadLemmas.{AreReadFrom}
use Rattle.disk_commands.proofs.named_blocks.numbers_of.Given as goal

abbrev pub invariant-loop-block : goal.invariant-loop-block
invariant-loop-block l = shadow (Utf8 l.rest) × AreReadFrom l.fn.word l.rest l.blocks.items

abbrev pub decreases-loop-block : goal.decreases-loop-block
decreases-loop-block l = length l.rest
