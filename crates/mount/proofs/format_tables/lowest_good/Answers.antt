use Rattle.std.proofs.Common.{arith}
use Rattle.bad_blocks.specs.Table.{unworn}
use Rattle.mount.proofs.GoodLemmas.{none_good, unworn_length}
use Rattle.mount.proofs.format_tables.lowest_good.Goals as goal

pub unreachable-requires : goal.unreachable-requires
unreachable-requires c =
    let size = unworn_length c.args.classes.now in
    absurd (omega (arith, none_good (unworn c.args.classes.now) (λ b l. c.loop-block.invariant b (omega (arith, l, size, c.requires.whole, c.blocks-block-end.ensures))), c.requires.some))
