use Rattle.page_layout.specs.Raw.{raw_image}
use Rattle.nand_die.specs.Made.{next_in}
use Rattle.nand_die.proofs.make.load_next_pages.Goals as goal

pub returns-in-Ok-clause-next_pages : goal.returns-in-Ok-clause-next_pages
returns-in-Ok-clause-next_pages c = c.in-Ok.ensures.next_pages (next_in c.args.geometry.now (raw_image c.args.geometry.now c.args.bytes.now)) c.find_next_pages.ensures

pub returns-in-Ok-clause-named : goal.returns-in-Ok-clause-named
returns-in-Ok-clause-named c = c.in-Ok.ensures.named (next_in c.args.geometry.now (raw_image c.args.geometry.now c.args.bytes.now)) c.find_next_pages.ensures

pub returns-in-Err-clause-err : goal.returns-in-Err-clause-err
returns-in-Err-clause-err c = c.in-Err.ensures.misnamed (next_in c.args.geometry.now (raw_image c.args.geometry.now c.args.bytes.now)) c.find_next_pages.ensures
