use Rattle.std.proofs.Common.{◌∙◌, ◌∷◌, []}
use Rattle.std.proofs.lemmas.Result.{err_from_is_err_and}
use Rattle.onfi_cycles.specs.Spelling.{program_cycles, load_cycles, confirm_cycles}
use Rattle.onfi_cycles.specs.Recorded.{Calls}
use Rattle.onfi_cycles.proofs.Sending.{fails_first, spells_then}
use Rattle.onfi_cycles.proofs.Asking.{until_first, sends_then}
use Rattle.onfi_cycles.proofs.spelling.send_program.Goals as goal

pub returns-in_err-load-clause-spells : goal.returns-in_err-load-clause-spells
unfolding program_cycles
returns-in_err-load-clause-spells g c h =
    let e = err_from_is_err_and c.from_residual.result c.from_residual.ensures.1 in
    rw (e.1, e.2) (fails_first (g.B.Bus.die c.args.bus.now) (g.B.Bus.die c.load.new.bus) (load_cycles c.args.row c.args.body.now c.args.spare.now) (confirm_cycles 0x10) c.in_err-load.field-0.0 (c.in_err-load.ensures.spells h))

pub returns-clause-spells : goal.returns-clause-spells
unfolding program_cycles
returns-clause-spells g c h =
    spells_then (g.B.Bus.die c.args.bus.now) (g.B.Bus.die c.load.new.bus) (g.B.Bus.die c.confirm.new.bus) (load_cycles c.args.row c.args.body.now c.args.spare.now) (confirm_cycles 0x10) c.confirm.result
    (c.in_ok-load.ensures.spells h) (c.confirm.ensures.spells (c.load.ensures.honest ∙ h))

pub returns-in_err-load-clause-sends : goal.returns-in_err-load-clause-sends
unfolding program_cycles
returns-in_err-load-clause-sends g c =
    let e = err_from_is_err_and c.from_residual.result c.from_residual.ensures.1 in
    rw (e.1, e.2) (until_first (Calls g.B.Bus.die g.B.Bus.honest g.B.Bus.recorded g.B.Bus.called) c.args.bus.now c.load.new.bus (load_cycles c.args.row c.args.body.now c.args.spare.now) (confirm_cycles 0x10) c.in_err-load.field-0.0 c.in_err-load.ensures.sends)

pub returns-clause-sends : goal.returns-clause-sends
unfolding program_cycles
returns-clause-sends g c =
    sends_then (Calls g.B.Bus.die g.B.Bus.honest g.B.Bus.recorded g.B.Bus.called) c.args.bus.now c.load.new.bus c.confirm.new.bus (load_cycles c.args.row c.args.body.now c.args.spare.now) (confirm_cycles 0x10) (λ byte. byte ∷ []) c.confirm.result
    c.in_ok-load.ensures.sends c.confirm.ensures.sends
