use Rattle.std.proofs.lemmas.Grind.{common_steps}
use Rattle.std.proofs.Common.{arith}
use Rattle.certificate.proofs.write.put_blocks.Goals as goal

pub loop-state-preserved : goal.loop-state-preserved
loop-state-preserved c = grind (arith, common_steps)

pub returns : goal.returns
returns c = grind (arith, common_steps)
