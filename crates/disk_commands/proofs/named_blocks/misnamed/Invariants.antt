use Rattle.disk_commands.proofs.BadLemmas.{AreRightTo}
use Rattle.disk_commands.proofs.named_blocks.misnamed.Given as goal

abbrev pub invariant-loop-at : goal.invariant-loop-at
invariant-loop-at l = AreRightTo l.geometry l.blocks l.at
