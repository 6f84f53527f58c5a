use Rattle.std.proofs.Common.{◌∙◌, ◌∷◌, [], subst}
use Rattle.std.proofs.lemmas.Result.{err_from_is_err_and}
use Rattle.onfi_cycles.specs.Cycles.{Command, DataIn}
use Rattle.onfi_cycles.specs.Spelling.{page_address, Taken, FailsIn}
use Rattle.onfi_cycles.specs.Recorded.{Calls}
use Rattle.onfi_cycles.proofs.Sending.{fails_first, fails_then, fails_one, spells_then, spells_more, spells_one}
use Rattle.onfi_cycles.specs.Sent.{Sent, SentUntil}
use Rattle.onfi_cycles.proofs.Asking.{until_first, until_then, until_one, sends_then, sends_more, sends_one}
use Rattle.onfi_cycles.proofs.spelling.load.Goals as goal

pub returns-in_err-start-clause-spells : goal.returns-in_err-start-clause-spells
returns-in_err-start-clause-spells g c h =
    let e = err_from_is_err_and c.from_residual.result c.from_residual.ensures.1 in
    let a = g.B.Bus.die c.args.bus.now in
    let b = g.B.Bus.die c.start.new.bus in
    let fault = c.in_err-start.field-0.0 in
    rw (e.1, e.2) (fails_first a b (Command 0x80 ∷ page_address c.args.row) (DataIn c.args.body.now ∷ DataIn c.args.spare.now ∷ []) fault
    (subst (λ xs. FailsIn a (Command 0x80 ∷ xs) fault b) c.page_bytes.ensures (c.in_err-start.ensures.spells h)))

pub returns-in_err-data_in-clause-spells : goal.returns-in_err-data_in-clause-spells
returns-in_err-data_in-clause-spells g c h =
    let e = err_from_is_err_and c.from_residual-in_err-data_in.result c.from_residual-in_err-data_in.ensures.1 in
    let a = g.B.Bus.die c.args.bus.now in
    let b = g.B.Bus.die c.start.new.bus in
    let d = g.B.Bus.die c.data_in.new.self in
    let fault = c.in_err-data_in.field-0.0 in
    rw (e.1, e.2) (fails_then a b d (Command 0x80 ∷ page_address c.args.row) (DataIn c.args.body.now ∷ DataIn c.args.spare.now ∷ []) fault
    (subst (λ xs. Taken a (Command 0x80 ∷ xs) b) c.page_bytes.ensures (c.in_ok-start.ensures.spells h))
    (fails_first b d (DataIn c.args.body.now ∷ []) (DataIn c.args.spare.now ∷ []) fault (fails_one b d (DataIn c.args.body.now) fault (c.in_err-data_in.ensures.cycle (c.start.ensures.honest ∙ h)))))

pub returns-clause-spells : goal.returns-clause-spells
returns-clause-spells g c h =
    let a = g.B.Bus.die c.args.bus.now in
    let b = g.B.Bus.die c.start.new.bus in
    let m = g.B.Bus.die c.data_in.new.self in
    let d = g.B.Bus.die c.data_in-2.new.self in
    let body = DataIn c.args.body.now in
    let spare = DataIn c.args.spare.now in
    let hb = c.start.ensures.honest ∙ h in
    let hm = c.data_in.ensures.honest ∙ hb in
    spells_then a b d (Command 0x80 ∷ page_address c.args.row) (body ∷ spare ∷ []) c.data_in-2.result
    (subst (λ xs. Taken a (Command 0x80 ∷ xs) b) c.page_bytes.ensures (c.in_ok-start.ensures.spells h))
    (spells_more b m d body (spare ∷ []) c.data_in-2.result (c.in_ok-data_in.ensures.cycle hb) (spells_one m d spare c.data_in-2.result (c.data_in-2.ensures.cycle hm)))

pub returns-in_err-start-clause-sends : goal.returns-in_err-start-clause-sends
returns-in_err-start-clause-sends g c =
    let e = err_from_is_err_and c.from_residual.result c.from_residual.ensures.1 in
    let a = c.args.bus.now in
    let b = c.start.new.bus in
    let fault = c.in_err-start.field-0.0 in
    rw (e.1, e.2) (until_first (Calls g.B.Bus.die g.B.Bus.honest g.B.Bus.recorded g.B.Bus.called) a b (Command 0x80 ∷ page_address c.args.row) (DataIn c.args.body.now ∷ DataIn c.args.spare.now ∷ []) fault
    (subst (λ xs. SentUntil (Calls g.B.Bus.die g.B.Bus.honest g.B.Bus.recorded g.B.Bus.called) a (Command 0x80 ∷ xs) fault b) c.page_bytes.ensures c.in_err-start.ensures.sends))

pub returns-in_err-data_in-clause-sends : goal.returns-in_err-data_in-clause-sends
returns-in_err-data_in-clause-sends g c =
    let e = err_from_is_err_and c.from_residual-in_err-data_in.result c.from_residual-in_err-data_in.ensures.1 in
    let a = c.args.bus.now in
    let b = c.start.new.bus in
    let d = c.data_in.new.self in
    let fault = c.in_err-data_in.field-0.0 in
    rw (e.1, e.2) (until_then (Calls g.B.Bus.die g.B.Bus.honest g.B.Bus.recorded g.B.Bus.called) a b d (Command 0x80 ∷ page_address c.args.row) (DataIn c.args.body.now ∷ DataIn c.args.spare.now ∷ []) [] fault
    (subst (λ xs. Sent (Calls g.B.Bus.die g.B.Bus.honest g.B.Bus.recorded g.B.Bus.called) a (Command 0x80 ∷ xs) [] b) c.page_bytes.ensures c.in_ok-start.ensures.sends)
    (until_first (Calls g.B.Bus.die g.B.Bus.honest g.B.Bus.recorded g.B.Bus.called) b d (DataIn c.args.body.now ∷ []) (DataIn c.args.spare.now ∷ [])
    fault
    (until_one (Calls g.B.Bus.die g.B.Bus.honest g.B.Bus.recorded g.B.Bus.called) b d (DataIn c.args.body.now) [] fault
    (let e' = c.in_err-data_in.ensures in record { said = e'.called; as_honest = e'.honest; step = e'.cycle; noted = e'.recorded }))))

pub returns-clause-sends : goal.returns-clause-sends
returns-clause-sends g c =
    let a = c.args.bus.now in
    let b = c.start.new.bus in
    let m = c.data_in.new.self in
    let d = c.data_in-2.new.self in
    let body = DataIn c.args.body.now in
    let spare = DataIn c.args.spare.now in
    sends_then (Calls g.B.Bus.die g.B.Bus.honest g.B.Bus.recorded g.B.Bus.called) a b d (Command 0x80 ∷ page_address c.args.row) (body ∷ spare ∷ []) (λ _. []) c.data_in-2.result
    (subst (λ xs. Sent (Calls g.B.Bus.die g.B.Bus.honest g.B.Bus.recorded g.B.Bus.called) a (Command 0x80 ∷ xs) [] b) c.page_bytes.ensures c.in_ok-start.ensures.sends)
    (sends_more (Calls g.B.Bus.die g.B.Bus.honest g.B.Bus.recorded g.B.Bus.called) b m d body (spare ∷ []) (λ _. []) c.data_in-2.result
    (let e' = c.in_ok-data_in.ensures in record { said = e'.called; as_honest = e'.honest; step = e'.cycle; noted = e'.recorded })
    (sends_one (Calls g.B.Bus.die g.B.Bus.honest g.B.Bus.recorded g.B.Bus.called) m d spare [] c.data_in-2.result
    (let e' = c.data_in-2.ensures in record { said = e'.called; as_honest = e'.honest; step = e'.cycle; noted = e'.recorded })))
