use Rattle.nand_die.proofs.MakeLemmas.{new_turns_so}
use Rattle.nand_die.proofs.make.new_next_pages.Goals as goal

pub returns-in-Ok-clause-ok : goal.returns-in-Ok-clause-ok
returns-in-Ok-clause-ok c = new_turns_so c.args.geometry.now _ c.blocks-2.result c.next_page_from.result (c.in-Ok.ensures.items_if_clones_equal (λ y e. e)) c.next_page_from.ensures c.blocks-2.ensures
