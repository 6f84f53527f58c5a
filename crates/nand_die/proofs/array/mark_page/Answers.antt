use Rattle.std.proofs.Common.{ℕ, arith, ◌+◌, ◌-◌}
use Rattle.nand_die.proofs.MakeLemmas.{mark_written}
use Rattle.nand_die.proofs.array.mark_page.Goals as goal

pub returns : goal.returns
returns c =
    let a : ℕ = c.page_start-start.result in
    mark_written c.args.geometry.now c.args.row a (a + c.page_length-size.result - a) c.data_bytes.result c.args.bytes.now c.requires.in_range c.page_start-start.ensures.is (omega (arith, c.page_length-size.ensures)) c.data_bytes.ensures c.requires.whole
