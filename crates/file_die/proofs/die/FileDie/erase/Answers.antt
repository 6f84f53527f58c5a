use Rattle.std.proofs.Common.{◌∙◌, ap, sym, ◌&&◌, not, false}
use Rattle.std.proofs.lemmas.Result.{err_from_is_err_and}
use Rattle.page_layout.specs.Flash.{NextState}
use Rattle.nand_die.specs.NextPages.{next_page_of}
use Rattle.file_die.specs.Die.{IsFit, change_ended}
use Rattle.file_die.proofs.ChangeLemmas.{erase_failed, erase_done, erase_refused}
use Rattle.file_die.proofs.die.FileDie.erase.Goals.{then-change+in_ok-clear, else-change}
use Rattle.file_die.proofs.die.FileDie.erase.Goals as goal

pub returns-in_err-clear : goal.returns-in_err-clear
returns-in_err-clear g c =
    let held = g.S.Store.held in
    let honest = g.S.Store.honest in
    let d = c.args.self.now in
    let fit : IsFit held honest d = c.next_page-next_page.ensures.fit in
    let due = c.change_of-change.ensures.legal ∙ ap (λ (t : NextState). not t.barred) c.next_page-next_page.ensures.next_page in
    let e = err_from_is_err_and c.from_residual.result c.from_residual.ensures.1 in
    rw (e.1, e.2) (erase_failed held honest g.S.Store.failed d c.clear.new.self c.args.block _ fit c.in_err-clear.ensures.others c.in_err-clear.ensures.asks (sym c.if-change.true ∙ due) c.in_err-clear.ensures.erases)

pub returns : goal.returns
returns g c =
    let held = g.S.Store.held in
    let honest = g.S.Store.honest in
    let d = c.args.self.now in
    let block = c.args.block in
    let fit : IsFit held honest d = c.next_page-next_page.ensures.fit in
    let change = c.change_of-change in
    let due = change.ensures.legal ∙ ap (λ (t : NextState). not t.barred) c.next_page-next_page.ensures.next_page in
    let passes = change.ensures.passed ∙ ap (λ b. b && not false) (sym change.ensures.legal) in
    elim c.if-change.branch [
      | then-change+in_ok-clear w ↦ erase_done held honest g.S.Store.failed d w.clear.new.self c.end.new.self block (next_page_of c.next_page-next_page.result) (next_page_of c.erased.result) change.result.legal change.result.passed
          fit c.requires.in_range due w.if-change.true passes c.next_page-next_page.ensures.next_page c.erased.ensures w.in_ok-clear.ensures.others (c.end.ensures ∙ ap (change_ended block (next_page_of c.erased.result) change.result.legal change.result.passed) w.self-is)
          w.in_ok-clear.ensures.asks w.in_ok-clear.ensures.erases
      | else-change w ↦ erase_refused held honest g.S.Store.failed d c.end.new.self block (next_page_of c.next_page-next_page.result) (next_page_of c.erased.result) change.result.legal change.result.passed
          fit c.requires.in_range due w.if-change.false passes c.next_page-next_page.ensures.next_page c.erased.ensures (c.end.ensures ∙ ap (change_ended block (next_page_of c.erased.result) change.result.legal change.result.passed) w.self-is)
    ]
