use Rattle.std.proofs.Common.{arith, ◌+◌, ◌-◌}
use Rattle.nand_die.proofs.PagesLemmas.{page_written}
use Rattle.nand_die.proofs.array.write_page.Goals as goal

pub returns-clause-image : goal.returns-clause-image
returns-clause-image c =
    let start = c.page_start-start.result in
    page_written c.args.geometry.now _ start (start + c.page_length-size.result - start) _ _ _ c.requires.in_range c.page_start-start.ensures.is (omega (arith, c.page_length-size.ensures)) c.copy_from_slice.ensures.after c.requires.whole c.requires.page
