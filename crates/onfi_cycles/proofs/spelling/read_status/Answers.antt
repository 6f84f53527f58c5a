use Rattle.std.proofs.Common.{◌∙◌, ◌∷◌, [], subst, get_or}
use Rattle.std.proofs.lemmas.Result.{err_from_is_err_and}
use Rattle.onfi_cycles.specs.Cycles.{Command, DataOut}
use Rattle.onfi_cycles.specs.Recorded.{Calls}
use Rattle.onfi_cycles.proofs.Sending.{fails_more, taken_more, taken_one, fails_one}
use Rattle.onfi_cycles.proofs.StatusByte.{status_out}
use Rattle.onfi_cycles.specs.Sent.{Sent}
use Rattle.onfi_cycles.proofs.Asking.{until_more, until_one, sent_more, sent_one, one_byte}
use Rattle.onfi_cycles.proofs.spelling.read_status.Goals as goal

pub returns-in_err-data_out-clause-spells : goal.returns-in_err-data_out-clause-spells
returns-in_err-data_out-clause-spells g c h =
    let e = err_from_is_err_and c.from_residual-in_err-data_out.result c.from_residual-in_err-data_out.ensures.1 in
    let mid = g.B.Bus.die c.command.new.self in
    rw (e.1, e.2) (fails_more _ mid _ (Command 0x70) (DataOut 1 ∷ []) _ (c.in_ok-command.ensures.cycle h) (fails_one mid _ (DataOut 1) _ (c.in_err-data_out.ensures.cycle (c.command.ensures.honest ∙ h))))

pub returns-clause-spells : goal.returns-clause-spells
returns-clause-spells g c h =
    let mid = g.B.Bus.die c.command.new.self in
    taken_more _ mid _ (Command 0x70) (DataOut 1 ∷ []) (c.in_ok-command.ensures.cycle h) (taken_one mid _ (DataOut 1) (c.in_ok-data_out.ensures.cycle (c.command.ensures.honest ∙ h)))

pub returns-clause-status : goal.returns-clause-status
returns-clause-status g c h at =
    let mid = g.B.Bus.die c.command.new.self in
    let h' = c.command.ensures.honest ∙ h in
    status_out mid (g.B.Bus.die c.data_out.new.self) _ (c.in_ok-data_out.ensures.cycle h') at (c.in_ok-data_out.ensures.out h')

pub returns-in_err-data_out-clause-sends : goal.returns-in_err-data_out-clause-sends
returns-in_err-data_out-clause-sends g c =
    let e = err_from_is_err_and c.from_residual-in_err-data_out.result c.from_residual-in_err-data_out.ensures.1 in
    let mid = c.command.new.self in
    rw (e.1, e.2)
    (until_more (Calls g.B.Bus.die g.B.Bus.honest g.B.Bus.recorded g.B.Bus.called) _ mid _ (Command 0x70) (DataOut 1 ∷ []) [] _
    (let e' = c.in_ok-command.ensures in record { said = e'.called; as_honest = e'.honest; step = e'.cycle; noted = e'.recorded })
    (until_one (Calls g.B.Bus.die g.B.Bus.honest g.B.Bus.recorded g.B.Bus.called) mid _ (DataOut 1) _ _
    (let e' = c.in_err-data_out.ensures in record { said = e'.called; as_honest = e'.honest; step = e'.cycle; noted = e'.recorded })))

pub returns-clause-sends : goal.returns-clause-sends
returns-clause-sends g c =
    let mid = c.command.new.self in
    let d = c.data_out.new.self in
    let out = c.data_out.new.bytes in
    let last = sent_one (Calls g.B.Bus.die g.B.Bus.honest g.B.Bus.recorded g.B.Bus.called) mid d (DataOut 1) out (let e' = c.in_ok-data_out.ensures in record { said = e'.called; as_honest = e'.honest; step = e'.cycle; noted = e'.recorded }) in
    sent_more (Calls g.B.Bus.die g.B.Bus.honest g.B.Bus.recorded g.B.Bus.called) _ mid d (Command 0x70) (DataOut 1 ∷ []) [] (get_or out 0 0 ∷ []) (let e' = c.in_ok-command.ensures in record { said = e'.called; as_honest = e'.honest; step = e'.cycle; noted = e'.recorded })
    (subst (λ o. Sent (Calls g.B.Bus.die g.B.Bus.honest g.B.Bus.recorded g.B.Bus.called) mid (DataOut 1 ∷ []) o d) (one_byte out c.data_out.auto.bytes) last)
