use Rattle.std.proofs.Common.{◌∙◌, ap, false, arith}
use Rattle.page_layout.specs.Raw.{raw_image}
use Rattle.nand_die.specs.Made.{first_next_page, next_in}
use Rattle.nand_die.proofs.MakeLemmas.{found_more}
use Rattle.nand_die.proofs.make.find_next_pages.Goals as goal

pub loop-block-preserved : goal.loop-block-preserved
loop-block-preserved c =
    let g = c.args.geometry.now in
    found_more (λ block. first_next_page (next_in g (raw_image g c.args.bytes.now) block) false) c.loop-block.next_pages c.loop-block.block c.next_page_from.result
    (omega (arith, c.loop-block.auto.next_pages, c.requires.blocks, c.loop-block-test.true, c.blocks-block-end.ensures))
    (c.next_page_from.ensures ∙ ap (λ next. first_next_page next false) c.next_page.ensures) c.loop-block.invariant
