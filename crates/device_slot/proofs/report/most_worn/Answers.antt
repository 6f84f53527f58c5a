use Rattle.std.proofs.Common.{arith}
use Rattle.device_slot.proofs.MostLemmas.{most_none, most_next, most_all}
use Rattle.device_slot.proofs.report.most_worn.Goals as goal

pub loop-block-init : goal.loop-block-init
loop-block-init c = most_none c.args.table.now

pub loop-block-preserved : goal.loop-block-preserved
loop-block-preserved c = most_next c.args.table.now c.loop-block.block c.loop-block.most c.wear.result _ c.loop-block.invariant (omega (arith, c.wear.ensures.is)) (omega arith)

pub returns : goal.returns
returns c = most_all c.args.table.now c.loop-block.block c.loop-block.most (omega arith) (omega arith) c.loop-block.invariant
