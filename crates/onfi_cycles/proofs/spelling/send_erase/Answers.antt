use Rattle.std.proofs.lemmas.Grind.{common_steps}
use Rattle.std.proofs.Common.{arith, ◌∙◌, ◌∷◌, [], ◌*◌, add-zero, ap, subst}
use Rattle.std.proofs.lemmas.Result.{err_from_is_err_and}
use Rattle.onfi_cycles.specs.Cycles.{Command}
use Rattle.onfi_cycles.specs.Spelling.{erase_cycles, row_address, confirm_cycles, Taken, FailsIn}
use Rattle.onfi_cycles.specs.Recorded.{Calls}
use Rattle.onfi_cycles.proofs.Sending.{fails_first, spells_then}
use Rattle.onfi_cycles.specs.Sent.{Sent, SentUntil}
use Rattle.onfi_cycles.proofs.Asking.{until_first, sends_then}
use Rattle.onfi_cycles.proofs.spelling.send_erase.Goals as goal

pub returns-in_err-start-clause-spells : goal.returns-in_err-start-clause-spells
unfolding erase_cycles
returns-in_err-start-clause-spells g c h =
    let e = err_from_is_err_and c.from_residual.result c.from_residual.ensures.1 in
    let a = g.B.Bus.die c.args.bus.now in
    let b = g.B.Bus.die c.start.new.bus in
    let fault = c.in_err-start.field-0.0 in
    let spelled = c.row_bytes.ensures ∙ ap row_address (c.row.ensures.is ∙ add-zero (c.args.block * c.args.geometry.now.pages)) in
    rw (e.1, e.2) (fails_first a b (Command 0x60 ∷ row_address (c.args.block * c.args.geometry.now.pages)) (confirm_cycles 0xD0) fault
    (subst (λ xs. FailsIn a (Command 0x60 ∷ xs) fault b) spelled (c.in_err-start.ensures.spells h)))

pub returns-clause-spells : goal.returns-clause-spells
unfolding erase_cycles
returns-clause-spells g c h =
    let a = g.B.Bus.die c.args.bus.now in
    let b = g.B.Bus.die c.start.new.bus in
    let spelled = c.row_bytes.ensures ∙ ap row_address (c.row.ensures.is ∙ add-zero (c.args.block * c.args.geometry.now.pages)) in
    spells_then a b (g.B.Bus.die c.confirm.new.bus) (Command 0x60 ∷ row_address (c.args.block * c.args.geometry.now.pages)) (confirm_cycles 0xD0) c.confirm.result
    (subst (λ xs. Taken a (Command 0x60 ∷ xs) b) spelled (c.in_ok-start.ensures.spells h)) (c.confirm.ensures.spells (c.start.ensures.honest ∙ h))

pub returns-in_err-start-clause-sends : goal.returns-in_err-start-clause-sends
unfolding erase_cycles
returns-in_err-start-clause-sends g c =
    let e = err_from_is_err_and c.from_residual.result c.from_residual.ensures.1 in
    let a = c.args.bus.now in
    let b = c.start.new.bus in
    let fault = c.in_err-start.field-0.0 in
    let spelled = c.row_bytes.ensures ∙ ap row_address (c.row.ensures.is ∙ add-zero (c.args.block * c.args.geometry.now.pages)) in
    rw (e.1, e.2) (until_first (Calls g.B.Bus.die g.B.Bus.honest g.B.Bus.recorded g.B.Bus.called) a b (Command 0x60 ∷ row_address (c.args.block * c.args.geometry.now.pages)) (confirm_cycles 0xD0) fault
    (subst (λ xs. SentUntil (Calls g.B.Bus.die g.B.Bus.honest g.B.Bus.recorded g.B.Bus.called) a (Command 0x60 ∷ xs) fault b) spelled c.in_err-start.ensures.sends))

pub returns-clause-sends : goal.returns-clause-sends
unfolding erase_cycles
returns-clause-sends g c =
    let a = c.args.bus.now in
    let b = c.start.new.bus in
    let spelled = c.row_bytes.ensures ∙ ap row_address (c.row.ensures.is ∙ add-zero (c.args.block * c.args.geometry.now.pages)) in
    sends_then (Calls g.B.Bus.die g.B.Bus.honest g.B.Bus.recorded g.B.Bus.called) a b c.confirm.new.bus (Command 0x60 ∷ row_address (c.args.block * c.args.geometry.now.pages)) (confirm_cycles 0xD0) (λ byte. byte ∷ []) c.confirm.result
    (subst (λ xs. Sent (Calls g.B.Bus.die g.B.Bus.honest g.B.Bus.recorded g.B.Bus.called) a (Command 0x60 ∷ xs) [] b) spelled c.in_ok-start.ensures.sends) c.confirm.ensures.sends

pub row_bytes-requires : goal.row_bytes-requires
row_bytes-requires g c = grind (arith, common_steps)
