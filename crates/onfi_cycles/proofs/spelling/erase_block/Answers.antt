use Rattle.std.proofs.lemmas.Result.{err_from_is_err_and}
use Rattle.onfi_cycles.proofs.Operations.{erase_did, erase_broke}
use Rattle.onfi_cycles.proofs.Noting.{erase_noted, told_done, told_fault}
use Rattle.onfi_cycles.proofs.spelling.erase_block.Goals as goal

pub returns-in_err-status-clause-did : goal.returns-in_err-status-clause-did
returns-in_err-status-clause-did g c h at =
    let e = err_from_is_err_and c.from_residual.result c.from_residual.ensures.1 in
    let q = c.requires in
    rw (e.1, e.2) (erase_broke _ _ _ _ _ c.args.geometry.now _ at (q.same h) q.block_in (c.in_err-status.ensures.spells h) c.in_err-status.ensures.rose)

pub returns-clause-did : goal.returns-clause-did
returns-clause-did g c h at =
    let q = c.requires in
    erase_did _ _ _ _ _ _ c.args.geometry.now _ at (q.same h) q.block_in (c.in_ok-status.ensures.spells h) (c.in_ok-status.ensures.status h) c.of_status.ensures

pub returns-clause-recorded : goal.returns-clause-recorded
returns-clause-recorded g c =
    let q = c.requires in
    erase_noted g.B.Bus.die g.B.Bus.honest g.B.Bus.recorded g.B.Bus.called _ _ c.args.block _ c.args.geometry.now _ _ q.same q.block_in c.in_ok-status.ensures.sends c.in_ok-status.ensures.spells c.in_ok-status.ensures.status c.of_status.ensures

pub returns-in_err-status-clause-sends : goal.returns-in_err-status-clause-sends
returns-in_err-status-clause-sends g c = told_fault g.B.Bus.die g.B.Bus.honest g.B.Bus.recorded g.B.Bus.called _ _ _ _ c.from_residual.result c.in_err-status.ensures.sends c.from_residual.ensures.1

pub returns-clause-sends : goal.returns-clause-sends
returns-clause-sends g c = told_done g.B.Bus.die g.B.Bus.honest g.B.Bus.recorded g.B.Bus.called _ _ _ _ _ c.in_ok-status.ensures.sends c.of_status.ensures
