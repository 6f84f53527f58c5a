use Rattle.std.proofs.Common.{◌≡◌, ◌∙◌, sym, subst, arith, ◌<◌, ◌≤◌, ◌*◌, ◌+◌, length, List}
use Rattle.std.proofs.lemmas.Bool.{eqb-false, eqb-true, not-true, not-false}
use Rattle.page_layout.specs.Page.{Page}
use Rattle.page_layout.specs.Raw.{raw_image}
use Rattle.page_layout.proofs.RawLemmas.{length-raw_image}
use Rattle.nand_die.proofs.PagesLemmas.{block_within}
use Rattle.nand_die.proofs.LeftLemmas.{refused_block, bare_block, struck_block}
use Rattle.nand_die.proofs.change.leave_block.Goals as goal

pub returns-then-not-change : goal.returns-then-not-change
returns-then-not-change c = refused_block c.args.geometry.now _ c.args.block c.args.change.legal c.args.change.passed c.args.left.now c.if-change.false (not-true c.args.change.legal c.if-not-change.true)

pub returns-then-is_empty : goal.returns-then-is_empty
returns-then-is_empty c = bare_block c.args.geometry.now _ c.args.block c.args.change.legal c.args.change.passed c.args.left.now c.if-change.false (eqb-true (length c.args.left.now) 0 (sym c.is_empty.ensures ∙ c.if-is_empty.true))

pub returns : goal.returns
returns c =
    let g = c.args.geometry.now in
    let ps : List Page = raw_image g c.args.bytes.now in
    let le : c.args.block * g.pages + g.pages ≤ length ps = subst (λ n. c.args.block * g.pages + g.pages ≤ n) (sym (length-raw_image g c.args.bytes.now)) (block_within g c.args.block c.requires.in_range) in
    let at : c.row.result ≡ c.args.block * g.pages = omega (arith, c.row.ensures.is) in
    let some : 0 < length c.args.left.now = (let ne = eqb-false (length c.args.left.now) 0 (sym c.is_empty.ensures ∙ c.if-is_empty.false) in omega (arith, ne)) in
    struck_block g ps _ c.args.block c.row.result c.args.change.legal c.args.change.passed c.args.left.now c.if-change.false (not-false c.args.change.legal c.if-not-change.false) some le at c.write_page.ensures.image
