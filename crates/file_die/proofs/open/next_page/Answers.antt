use Rattle.std.proofs.Common.{◌∙◌, ap, arith}
use Rattle.file_die.specs.Store.{Held, page_in}
use Rattle.page_layout.specs.Sound.{is_erased_page}
use Rattle.file_die.proofs.OpenLemmas.{next_found, next_zero}
use Rattle.file_die.proofs.open.next_page.Goals as goal

pub returns-then-not-branch-clause-next : goal.returns-then-not-branch-clause-next
returns-then-not-branch-clause-next g c h =
    let loop = c.loop-next.invariant in
    next_found c.args.geometry.now _ c.args.block c.loop-next.next c.row.result c.in_ok-is_row_erased.field-0 (c.requires.images h) c.requires.in_range loop.most c.loop-next-test.true c.row.ensures.is
    (c.in_ok-is_row_erased.ensures.erased (loop.looks.as_honest ∙ h) ∙ ap (λ (s : Held). is_erased_page (page_in s.pages c.row.result)) (loop.looks.same h)) c.if-not-branch.true (loop.erased h)

pub returns-clause-next : goal.returns-clause-next
returns-clause-next g c h = next_zero c.args.geometry.now _ c.args.block c.loop-next.next (c.requires.images h) c.requires.in_range (omega (arith, c.loop-next-test.false)) (c.loop-next.invariant.erased h)
