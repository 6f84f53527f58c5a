use Rattle.image_check.specs.Aspects.{AreSame}
use Rattle.image_check.proofs.blocks.check_blocks.Given as goal

abbrev pub invariant-loop-block : goal.invariant-loop-block
invariant-loop-block l = AreSame l.block l.aspect l.certificate.blocks l.states
