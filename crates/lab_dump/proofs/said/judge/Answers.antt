use Rattle.std.proofs.Common.{◌<◌, length, arith}
use Rattle.std.proofs.lemmas.List.{get_or_default}
use Rattle.lab_dump.proofs.SaidLemmas.{judged_all, judged_more, judged_start}
use Rattle.lab_dump.proofs.said.judge.Goals as goal

pub loop-i-init : goal.loop-i-init
loop-i-init c = judged_start c.args.geometry.now c.args.traces.now c.args.said.now

pub loop-i-preserved : goal.loop-i-preserved
loop-i-preserved c =
    let within : c.loop-i.i < length c.loop-i.said = omega (arith, c.loop-i-test.true, c.loop-i.invariant.size) in
    judged_more c.args.geometry.now c.args.traces.now c.loop-i.i c.args.said.now c.loop-i.said _ c.is_newer-newer.result c.loop-i.invariant within (get_or_default c.loop-i.said c.loop-i.i _ _ within) c.is_newer-newer.ensures

pub returns : goal.returns
returns c = λ image size h before.
    judged_all c.args.geometry.now c.args.traces.now c.loop-i.i image c.args.said.now c.loop-i.said c.loop-i.invariant (omega (arith, c.loop-i-test.false, c.loop-i.invariant.size)) size h before
