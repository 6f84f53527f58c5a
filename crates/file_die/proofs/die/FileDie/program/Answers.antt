use Rattle.std.proofs.Common.{◌∙◌, ap, sym, ◌/◌, ℕ, ◌&&◌, not, false}
use Rattle.std.proofs.lemmas.Result.{err_from_is_err_and}
use Rattle.nand_die.specs.NextPages.{next_page_of}
use Rattle.file_die.specs.Die.{IsFit, change_ended}
use Rattle.file_die.proofs.ChangeLemmas.{may_at, program_failed, program_done, program_refused}
use Rattle.file_die.proofs.die.FileDie.program.Goals.{then-change+in_ok-put, else-change}
use Rattle.file_die.proofs.die.FileDie.program.Goals as goal

pub returns-in_err-put : goal.returns-in_err-put
returns-in_err-put g c =
    let held = g.S.Store.held in
    let d = c.args.self.now in
    let fit : IsFit held g.S.Store.honest d = c.next_page-next_page.ensures.fit in
    let may = may_at held _ d c.self.inside.geometry c.args.row c.pages.result c.pages-2.result (next_page_of c.next_page-next_page.result) _ _ c.self.view_is c.self.invariant.same c.pages.ensures c.pages-2.ensures
    c.next_page-next_page.ensures.next_page c.is_due.ensures c.change_of-change.ensures.legal in
    let e = err_from_is_err_and c.from_residual.result c.from_residual.ensures.1 in
    rw (e.1, e.2) (program_failed held g.S.Store.honest g.S.Store.failed d c.put.new.self c.args.row _ _ fit c.in_err-put.ensures.others c.in_err-put.ensures.asks (sym c.if-change.true ∙ may.1) c.in_err-put.ensures.programs)

pub returns : goal.returns
returns g c =
    let held = g.S.Store.held in
    let honest = g.S.Store.honest in
    let d = c.args.self.now in
    let row = c.args.row in
    let fit : IsFit held honest d = c.next_page-next_page.ensures.fit in
    let block : ℕ = row / c.pages.result in
    let change = c.change_of-change in
    let may = may_at held _ d c.self.inside.geometry row c.pages.result c.pages-2.result (next_page_of c.next_page-next_page.result) _ _ c.self.view_is c.self.invariant.same c.pages.ensures c.pages-2.ensures
    c.next_page-next_page.ensures.next_page c.is_due.ensures change.ensures.legal in
    let passes = change.ensures.passed ∙ ap (λ b. b && not false) (sym change.ensures.legal) in
    elim c.if-change.branch [
      | then-change+in_ok-put w ↦ program_done held honest g.S.Store.failed d w.put.new.self c.end.new.self row block _ (next_page_of c.next_page-next_page.result) (next_page_of c.programmed.result) change.result.legal change.result.passed
          fit c.requires.in_range may.0 may.1 w.if-change.true passes c.next_page-next_page.ensures.next_page c.programmed.ensures w.in_ok-put.ensures.others
          (c.end.ensures ∙ ap (change_ended block (next_page_of c.programmed.result) change.result.legal change.result.passed) w.self-is)
          w.in_ok-put.ensures.asks w.in_ok-put.ensures.programs
      | else-change w ↦ program_refused held honest g.S.Store.failed d c.end.new.self row block _ (next_page_of c.next_page-next_page.result) (next_page_of c.programmed.result) change.result.legal change.result.passed
          fit c.requires.in_range may.0 may.1 w.if-change.false passes c.next_page-next_page.ensures.next_page c.programmed.ensures (c.end.ensures ∙ ap (change_ended block (next_page_of c.programmed.result) change.result.legal change.result.passed) w.self-is)
    ]
