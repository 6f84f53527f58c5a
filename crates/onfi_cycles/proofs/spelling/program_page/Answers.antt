use Rattle.std.proofs.lemmas.Result.{err_from_is_err_and}
use Rattle.onfi_cycles.proofs.Operations.{program_did, program_broke}
use Rattle.onfi_cycles.proofs.Noting.{program_noted, told_done, told_fault}
use Rattle.onfi_cycles.proofs.spelling.program_page.Goals as goal

pub returns-in_err-status-clause-did : goal.returns-in_err-status-clause-did
returns-in_err-status-clause-did g c h at =
    let e = err_from_is_err_and c.from_residual.result c.from_residual.ensures.1 in
    let q = c.requires in
    rw (e.1, e.2) (program_broke _ _ _ _ _ _ _ _ at (q.row_in h) (q.body_whole h) (q.spare_whole h) (c.in_err-status.ensures.spells h) c.in_err-status.ensures.rose)

pub returns-clause-did : goal.returns-clause-did
returns-clause-did g c h at =
    let q = c.requires in
    program_did _ _ _ _ _ _ _ _ _ at (q.row_in h) (q.body_whole h) (q.spare_whole h) (c.in_ok-status.ensures.spells h) (c.in_ok-status.ensures.status h) c.of_status.ensures

pub returns-clause-recorded : goal.returns-clause-recorded
returns-clause-recorded g c =
    let q = c.requires in
    program_noted g.B.Bus.die g.B.Bus.honest g.B.Bus.recorded g.B.Bus.called _ _ c.args.row _ _ _ _ _ q.row_in q.body_whole q.spare_whole c.in_ok-status.ensures.sends c.in_ok-status.ensures.spells c.in_ok-status.ensures.status c.of_status.ensures

pub returns-in_err-status-clause-sends : goal.returns-in_err-status-clause-sends
returns-in_err-status-clause-sends g c = told_fault g.B.Bus.die g.B.Bus.honest g.B.Bus.recorded g.B.Bus.called _ _ _ _ c.from_residual.result c.in_err-status.ensures.sends c.from_residual.ensures.1

pub returns-clause-sends : goal.returns-clause-sends
returns-clause-sends g c = told_done g.B.Bus.die g.B.Bus.honest g.B.Bus.recorded g.B.Bus.called _ _ _ _ _ c.in_ok-status.ensures.sends c.of_status.ensures
