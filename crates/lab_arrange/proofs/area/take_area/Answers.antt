use Rattle.std.proofs.Common.{arith}
use Rattle.lab_arrange.proofs.ReadLemmas.{taken_is}
use Rattle.lab_arrange.proofs.area.take_area.Goals as goal

pub returns : goal.returns
returns c =
    let inv = c.loop-i.invariant in
    taken_is c.args.swapped c.args.raw.now c.loop-i.area c.args.lead _ inv.size (λ k l. inv.before k (omega (arith, c.loop-i-test.false, c.loop-i.auto.i-end)))
