use Rattle.std.proofs.Common.{◌∙◌, ◌∷◌, ◌++◌, [], ap, sym, subst, length, ◌<◌}
use Rattle.std.specs.Prelude.{slice_get}
use Rattle.std.proofs.lemmas.Result.{err_from_is_err_and, on_ok_weaker}
use Rattle.page_layout.specs.declared.geometry.Geometry.{Geometry}
use Rattle.page_layout.specs.Geometry.{row_count}
use Rattle.onfi_cycles.specs.Cycles.{DieState, Command}
use Rattle.onfi_cycles.specs.Spelling.{read_cycles, Taken, FailsIn, page_address, fetch_cycles}
use Rattle.onfi_cycles.specs.Recorded.{Calls}
use Rattle.onfi_cycles.proofs.Sending.{fails_first, spells_then, counted_both}
use Rattle.onfi_cycles.proofs.Operations.{addressed, read_broke, read_does}
use Rattle.onfi_cycles.specs.Sent.{Sent, SentUntil}
use Rattle.onfi_cycles.proofs.Asking.{until_first, sends_then}
use Rattle.onfi_cycles.proofs.Noting.{sends_weaker, until_weaker, read_noted}
use Rattle.onfi_cycles.proofs.spelling.fetch_page.Goals as goal

pub returns-in_err-start-clause-did : goal.returns-in_err-start-clause-did
unfolding read_cycles
returns-in_err-start-clause-did g c h at =
    let e = err_from_is_err_and c.from_residual.result c.from_residual.ensures.1 in
    let q = c.requires in
    let a = g.B.Bus.die c.args.bus.now in
    let b = g.B.Bus.die c.start.new.bus in
    let fault = c.in_err-start.field-0.0 in
    let failed = subst (λ xs. FailsIn a (Command 0x00 ∷ xs) fault b) c.page_bytes.ensures (c.in_err-start.ensures.spells h) in
    rw (e.1, e.2) (read_broke a b _ _ c.args.row _ _ fault at (q.row_in h) (q.body_whole h) (q.spare_whole h)
    (fails_first a b (Command 0x00 ∷ page_address c.args.row) (fetch_cycles (length c.args.body.now) (length c.args.spare.now)) fault failed) c.in_err-start.ensures.rose)

pub returns-clause-did : goal.returns-clause-did
unfolding read_cycles
returns-clause-did g c h at =
    let q = c.requires in
    let a = g.B.Bus.die c.args.bus.now in
    let b = g.B.Bus.die c.start.new.bus in
    let d = g.B.Bus.die c.fetch.new.bus in
    let taken = subst (λ xs. Taken a (Command 0x00 ∷ xs) b) c.page_bytes.ensures (c.in_ok-start.ensures.spells h) in
    read_does a d _ _ c.args.row _ _ c.fetch.result at (q.row_in h) (q.body_whole h) (q.spare_whole h)
    (spells_then a b d (Command 0x00 ∷ page_address c.args.row) (fetch_cycles (length c.args.body.now) (length c.args.spare.now)) c.fetch.result taken (c.fetch.ensures.spells (c.start.ensures.honest ∙ h)))
    (counted_both _ _ _ c.fetch.result c.start.ensures.failed c.fetch.ensures.rose)

pub returns-clause-page : goal.returns-clause-page
returns-clause-page g c =
    on_ok_weaker c.fetch.result
    (λ got h at.
    let q = c.requires in
    let a = g.B.Bus.die c.args.bus.now in
    let b = g.B.Bus.die c.start.new.bus in
    let to = addressed a b c.args.row at (q.row_in h) (subst (λ xs. Taken a (Command 0x00 ∷ xs) b) c.page_bytes.ensures (c.in_ok-start.ensures.spells h)) in
    let same = c.start.ensures.geometry h in
    ap (λ (d : DieState). slice_get d.flash.image c.args.row) (sym to)
    ∙ got (c.start.ensures.honest ∙ h) c.args.row (ap (λ (d : DieState). d.phase) to) (subst (λ t. c.args.row < row_count t) (sym same) (q.row_in h))
    (q.body_whole h ∙ ap (λ (t : Geometry). t.data_bytes) (sym same)) (q.spare_whole h ∙ ap (λ (t : Geometry). t.spare_bytes) (sym same)))
    c.fetch.ensures.page

pub returns-in_err-start-clause-sends : goal.returns-in_err-start-clause-sends
unfolding read_cycles
returns-in_err-start-clause-sends g c =
    let e = err_from_is_err_and c.from_residual.result c.from_residual.ensures.1 in
    let a = c.args.bus.now in
    let b = c.start.new.bus in
    let fault = c.in_err-start.field-0.0 in
    let failed = subst (λ xs. SentUntil (Calls g.B.Bus.die g.B.Bus.honest g.B.Bus.recorded g.B.Bus.called) a (Command 0x00 ∷ xs) fault b) c.page_bytes.ensures c.in_err-start.ensures.sends in
    rw (e.1, e.2)
    (until_weaker (Calls g.B.Bus.die g.B.Bus.honest g.B.Bus.recorded g.B.Bus.called) g.B.Bus.called (λ x y r o z call. call.said) a b
    ((Command 0x00 ∷ page_address c.args.row) ++ fetch_cycles (length c.args.body.now) (length c.args.spare.now)) fault
    (until_first (Calls g.B.Bus.die g.B.Bus.honest g.B.Bus.recorded g.B.Bus.called) a b (Command 0x00 ∷ page_address c.args.row)
    (fetch_cycles (length c.args.body.now) (length c.args.spare.now)) fault failed))

pub returns-clause-sends : goal.returns-clause-sends
unfolding read_cycles
returns-clause-sends g c =
    let a = c.args.bus.now in
    let b = c.start.new.bus in
    let d = c.fetch.new.bus in
    let taken = subst (λ xs. Sent (Calls g.B.Bus.die g.B.Bus.honest g.B.Bus.recorded g.B.Bus.called) a (Command 0x00 ∷ xs) [] b) c.page_bytes.ensures c.in_ok-start.ensures.sends in
    sends_weaker (Calls g.B.Bus.die g.B.Bus.honest g.B.Bus.recorded g.B.Bus.called) g.B.Bus.called (λ x y r o z call. call.said) a d
    ((Command 0x00 ∷ page_address c.args.row) ++ fetch_cycles (length c.args.body.now) (length c.args.spare.now))
    (λ _. c.fetch.new.body ++ c.fetch.new.spare) c.fetch.result
    (sends_then (Calls g.B.Bus.die g.B.Bus.honest g.B.Bus.recorded g.B.Bus.called) a b d (Command 0x00 ∷ page_address c.args.row)
    (fetch_cycles (length c.args.body.now) (length c.args.spare.now)) (λ _. c.fetch.new.body ++ c.fetch.new.spare) c.fetch.result taken
    c.fetch.ensures.sends)

pub returns-clause-recorded : goal.returns-clause-recorded
unfolding read_cycles
returns-clause-recorded g c =
    let q = c.requires in
    let a = c.args.bus.now in
    let b = c.start.new.bus in
    let d = c.fetch.new.bus in
    let taken = subst (λ xs. Sent (Calls g.B.Bus.die g.B.Bus.honest g.B.Bus.recorded g.B.Bus.called) a (Command 0x00 ∷ xs) [] b) c.page_bytes.ensures c.in_ok-start.ensures.sends in
    read_noted g.B.Bus.die g.B.Bus.honest g.B.Bus.recorded g.B.Bus.called a d c.args.row _ _ (λ _. c.fetch.new.body ++ c.fetch.new.spare) c.fetch.result q.row_in q.body_whole q.spare_whole
    (sends_then (Calls g.B.Bus.die g.B.Bus.honest g.B.Bus.recorded g.B.Bus.called) a b d (Command 0x00 ∷ page_address c.args.row)
    (fetch_cycles (length c.args.body.now) (length c.args.spare.now)) (λ _. c.fetch.new.body ++ c.fetch.new.spare) c.fetch.result taken
    c.fetch.ensures.sends)
