use Rattle.std.proofs.Common.{arith}
use Rattle.lab_arrange.proofs.ReadLemmas.{map_places}
use Rattle.lab_arrange.specs.Place.{value_of}
use Rattle.lab_arrange.proofs.area.turn_back.Goals as goal

pub returns : goal.returns
returns c =
    let inv = c.loop-i.invariant in
    map_places (value_of c.args.inverted) c.args.bytes.now c.loop-i.bytes inv.size (λ k l. inv.before k (omega (arith, c.loop-i-test.false, c.loop-i.auto.i-end)))
