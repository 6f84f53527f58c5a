use Rattle.std.proofs.Common.{◌∙◌, ◌∷◌, [], length}
use Rattle.std.proofs.lemmas.Result.{err_from_is_err_and, on_ok_weaker}
use Rattle.onfi_cycles.specs.Cycles.{Command, DataOut}
use Rattle.onfi_cycles.specs.Recorded.{Calls}
use Rattle.onfi_cycles.proofs.Sending.{fails_more, fails_first, fails_one, spells_more, spells_one}
use Rattle.onfi_cycles.proofs.Operations.{page_taken}
use Rattle.onfi_cycles.proofs.Asking.{until_more, until_first, until_one, sends_more, sends_after, sends_one}
use Rattle.onfi_cycles.proofs.spelling.fetch.Goals as goal

pub returns-in_err-data_out-clause-spells : goal.returns-in_err-data_out-clause-spells
returns-in_err-data_out-clause-spells g c h =
    let e = err_from_is_err_and c.from_residual-in_err-data_out.result c.from_residual-in_err-data_out.ensures.1 in
    let a = g.B.Bus.die c.args.bus.now in
    let b = g.B.Bus.die c.command.new.self in
    let d = g.B.Bus.die c.data_out.new.self in
    let fault = c.in_err-data_out.field-0.0 in
    let body = DataOut (length c.args.body.now) in
    let spare = DataOut (length c.args.spare.now) in
    rw (e.1, e.2) (fails_more a b d (Command 0x30) (body ∷ spare ∷ []) fault (c.in_ok-command.ensures.cycle h)
    (fails_first b d (body ∷ []) (spare ∷ []) fault (fails_one b d body fault (c.in_err-data_out.ensures.cycle (c.command.ensures.honest ∙ h)))))

pub returns-clause-spells : goal.returns-clause-spells
returns-clause-spells g c h =
    let a = g.B.Bus.die c.args.bus.now in
    let b = g.B.Bus.die c.command.new.self in
    let m = g.B.Bus.die c.data_out.new.self in
    let d = g.B.Bus.die c.data_out-2.new.self in
    let body = DataOut (length c.args.body.now) in
    let spare = DataOut (length c.args.spare.now) in
    let hb = c.command.ensures.honest ∙ h in
    let hm = c.data_out.ensures.honest ∙ hb in
    let r = c.data_out-2.result in
    spells_more a b d (Command 0x30) (body ∷ spare ∷ []) r (c.in_ok-command.ensures.cycle h) (spells_more b m d body (spare ∷ []) r (c.in_ok-data_out.ensures.cycle hb) (spells_one m d spare r (c.data_out-2.ensures.cycle hm)))

pub returns-clause-page : goal.returns-clause-page
returns-clause-page g c =
    on_ok_weaker c.data_out-2.result
    (λ got h row at lt is_m is_n.
    let a = g.B.Bus.die c.args.bus.now in
    let b = g.B.Bus.die c.command.new.self in
    let m = g.B.Bus.die c.data_out.new.self in
    let hb = c.command.ensures.honest ∙ h in
    page_taken a b m (length c.args.body.now) (length c.args.spare.now) row _ _ (c.in_ok-command.ensures.cycle h) (c.in_ok-data_out.ensures.cycle hb) at (c.in_ok-command.ensures.whole h) lt is_m is_n
    (c.in_ok-data_out.ensures.out hb) (got (c.data_out.ensures.honest ∙ hb)))
    c.data_out-2.ensures.out

pub returns-in_err-data_out-clause-sends : goal.returns-in_err-data_out-clause-sends
returns-in_err-data_out-clause-sends g c =
    let e = err_from_is_err_and c.from_residual-in_err-data_out.result c.from_residual-in_err-data_out.ensures.1 in
    let a = c.args.bus.now in
    let b = c.command.new.self in
    let d = c.data_out.new.self in
    let fault = c.in_err-data_out.field-0.0 in
    let body = DataOut (length c.args.body.now) in
    let spare = DataOut (length c.args.spare.now) in
    rw (e.1, e.2) (until_more (Calls g.B.Bus.die g.B.Bus.honest g.B.Bus.recorded g.B.Bus.called) a b d (Command 0x30) (body ∷ spare ∷ []) [] fault (let e' = c.in_ok-command.ensures in record { said = e'.called; as_honest = e'.honest; step = e'.cycle; noted = e'.recorded })
    (until_first (Calls g.B.Bus.die g.B.Bus.honest g.B.Bus.recorded g.B.Bus.called) b d (body ∷ []) (spare ∷ []) fault
    (until_one (Calls g.B.Bus.die g.B.Bus.honest g.B.Bus.recorded g.B.Bus.called) b d body _ fault
    (let e' = c.in_err-data_out.ensures in record { said = e'.called; as_honest = e'.honest; step = e'.cycle; noted = e'.recorded }))))

pub returns-clause-sends : goal.returns-clause-sends
returns-clause-sends g c =
    let a = c.args.bus.now in
    let b = c.command.new.self in
    let m = c.data_out.new.self in
    let d = c.data_out-2.new.self in
    let body = DataOut (length c.args.body.now) in
    let spare = DataOut (length c.args.spare.now) in
    let r = c.data_out-2.result in
    sends_more (Calls g.B.Bus.die g.B.Bus.honest g.B.Bus.recorded g.B.Bus.called) a b d (Command 0x30) (body ∷ spare ∷ []) (λ _. _) r (let e' = c.in_ok-command.ensures in record { said = e'.called; as_honest = e'.honest; step = e'.cycle; noted = e'.recorded })
    (sends_after (Calls g.B.Bus.die g.B.Bus.honest g.B.Bus.recorded g.B.Bus.called) b m d body (spare ∷ []) _ _ r
    (let e' = c.in_ok-data_out.ensures in record { said = e'.called; as_honest = e'.honest; step = e'.cycle; noted = e'.recorded })
    (sends_one (Calls g.B.Bus.die g.B.Bus.honest g.B.Bus.recorded g.B.Bus.called) m d spare _ r
    (let e' = c.data_out-2.ensures in record { said = e'.called; as_honest = e'.honest; step = e'.cycle; noted = e'.recorded })))
