use Rattle.std.proofs.Common.{arith}
use Rattle.nand_die.proofs.PlaceLemmas.{block_places}
use Rattle.nand_die.proofs.array.block_start.Goals as goal

pub returns : goal.returns
returns c =
    let places = block_places c.args.geometry.now c.args.block c.block_length.result c.requires.in_range c.block_length.ensures in
    record { is = places.0; ends = omega (arith, places.1, c.block_length.ensures) }
