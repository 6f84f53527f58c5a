use Rattle.std.proofs.Common.{◌∙◌, sym}
use Rattle.std.proofs.lemmas.Bool.{eqb-false, eqb-true, not-true, not-false}
use Rattle.nand_die.proofs.ProgramLemmas.{passed_page, refused_page, bare_page, struck_page}
use Rattle.nand_die.proofs.change.leave_page.Goals as goal

pub returns-then-change : goal.returns-then-change
returns-then-change c = passed_page c.args.geometry.now _ _ c.args.row _ _ c.args.change.legal c.args.change.passed c.args.left.now c.if-change.true c.write_page.ensures.image

pub returns-then-not-change : goal.returns-then-not-change
returns-then-not-change c = refused_page c.args.geometry.now _ c.args.row _ c.args.change.legal c.args.change.passed c.args.left.now c.if-change.false (not-true c.args.change.legal c.if-not-change.true)

pub returns-then-is_empty : goal.returns-then-is_empty
returns-then-is_empty c = bare_page c.args.geometry.now _ c.args.row _ c.args.change.legal c.args.change.passed c.args.left.now c.if-change.false (eqb-true _ 0 (sym c.is_empty.ensures ∙ c.if-is_empty.true))

pub returns : goal.returns
returns c =
    struck_page c.args.geometry.now _ _ c.args.row _ _ c.args.change.legal c.args.change.passed c.args.left.now c.if-change.false (not-false c.args.change.legal c.if-not-change.false)
    (eqb-false _ 0 (sym c.is_empty.ensures ∙ c.if-is_empty.false)) c.write_page-2.ensures.image
