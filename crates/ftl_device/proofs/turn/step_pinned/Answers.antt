use Rattle.std.proofs.Common.{Ok, Err, refl}
use Rattle.std.proofs.lemmas.Result.{err_from_is_err_and}
use Rattle.collection.specs.Safe.{ram}
use Rattle.ftl_device.proofs.RoomLemmas.{good_fewer}
use Rattle.ftl_device.proofs.LeaveLemmas.{leaves_by, leaves_done, leaves_refused}
use Rattle.ftl_device.proofs.StepLemmas.{some_pin, pinned_half, step_goes_on, step_told, step_counted, step_stuck, risen_told, step_worked, step_less, step_keeps, step_bad, step_refused}
use Rattle.ftl_device.proofs.TurnedLemmas.{gone_pinned}
use Rattle.collection.proofs.Looks.{ok_not_bus}
use Rattle.ftl_device.proofs.ReadRefusals.{not_both}
use Rattle.ftl_device.proofs.turn.step_pinned.Goals as goal

-- it was refused
pub returns-in_err-step-clause-collects : goal.returns-in_err-step-clause-collects
returns-in_err-step-clause-collects g c =
    let p = err_from_is_err_and c.from_residual.result c.from_residual.ensures.1 in
    let q = some_pin c.args.engine.now.pinned c.requires.pinned in
    let old = ram c.args.engine.now in
    let new = ram c.step.new.self in
    let a = c.in_err-step.ensures.advances c.requires.going q.0 q.1 in
    let t = c.in_err-step.ensures.stands in
    let goes = step_goes_on q.0 old new (pinned_half old q.0 c.requires.calm q.1) a.goes in
    let told = step_told q.0 old new _ (good_fewer old new c.requires.safe.memory t.safe.memory goes) a.cost in
    let leaves = leaves_refused g.N.PageSource.view _ _ c.args.engine.now c.step.new.self _
    (leaves_by g.N.PageSource.view c.args.engine.now
    c.step.new.self (Err _) c.requires.going t a.goes.geometry told
    (λ honest k ne. c.in_err-step.ensures.stops honest c.requires.going k.truth k.passed ne)
    (λ honest k bus. c.in_err-step.ensures.cut honest c.requires.going k.truth k.passed bus)) in
    rw (p.1, p.2) (record {
      leaves = leaves;
      limits = a.keys.limits;
      calm_memory = λ none. absurd (not_both _ _ leaves.fault none);
      goes = goes;
      counts = step_stuck old new _ a.cost;
      risen = tt;
      bad = λ honest k. tt;
      truth = λ honest k. step_refused q.0 old new _ _ c.requires.safe.memory t.safe.memory a.goes.geometry k q.1 _ a.stays.0 a.stays.1 (a.truth honest k.truth (k.passed q.0 q.1));
    })

-- it was taken
pub returns-clause-collects : goal.returns-clause-collects
returns-clause-collects g c =
    let q = some_pin c.args.engine.now.pinned c.requires.pinned in
    let old = ram c.args.engine.now in
    let new = ram c.step.new.self in
    let a = c.in_ok-step.ensures.advances c.requires.going q.0 q.1 in
    let t = c.in_ok-step.ensures.stands in
    let goes = step_goes_on q.0 old new (pinned_half old q.0 c.requires.calm q.1) a.goes in
    let calm = a.calm refl c.requires.calm in
    record {
      leaves = leaves_done g.N.PageSource.view c.args.engine.now c.step.new.self _ tt
          (leaves_by g.N.PageSource.view c.args.engine.now
          c.step.new.self (Ok _) c.requires.going t a.goes.geometry (good_fewer old new c.requires.safe.memory t.safe.memory goes)
          (λ honest k ne. c.in_ok-step.ensures.stops honest c.requires.going k.truth k.passed ne)
          (λ honest k bus. absurd (ok_not_bus _ bus)));
      limits = a.keys.limits;
      calm_memory = λ none. calm;
      goes = goes;
      counts = step_counted q.0 old new _ a.cost.cost;
      risen = λ before r. risen_told before _ _ _ a.erases_are r;
      bad = λ honest k.
          let on = a.truth honest k.truth (k.passed q.0 q.1) in
          step_bad q.0 old new _ _ c.requires.safe.memory t.safe.memory a.goes.geometry k q.1 on.same.truth on.same.leaves;
      truth = λ honest k. step_keeps q.0 old new _ _ c.requires.safe.memory t.safe.memory a.goes.geometry k q.1 _ calm (a.truth honest k.truth (k.passed q.0 q.1));
    }

pub returns-clause-gone_on : goal.returns-clause-gone_on
returns-clause-gone_on g c =
    let q = some_pin c.args.engine.now.pinned c.requires.pinned in
    gone_pinned q.0 (ram c.args.engine.now) (ram c.step.new.self) _ q.1 (c.in_ok-step.ensures.advances c.requires.going q.0 q.1).cost

pub returns-clause-worked : goal.returns-clause-worked
returns-clause-worked g c =
    let q = some_pin c.args.engine.now.pinned c.requires.pinned in
    let a = c.in_ok-step.ensures.advances c.requires.going q.0 q.1 in
    step_worked q.0 (ram c.args.engine.now) (ram c.step.new.self) _ _ _ a.cost.cost a.erases_are

pub returns-clause-less : goal.returns-clause-less
returns-clause-less g c = λ honest k.
    let q = some_pin c.args.engine.now.pinned c.requires.pinned in
    let a = c.in_ok-step.ensures.advances c.requires.going q.0 q.1 in
    step_less q.0 (ram c.args.engine.now) (ram c.step.new.self) _ _ _ _ _ c.requires.safe.memory k q.1 a.cost a.erases_are (a.truth honest k.truth (k.passed q.0 q.1))

-- nothing more is said of it

pub returns-in_err-step-clause-gone_on : goal.returns-in_err-step-clause-gone_on
returns-in_err-step-clause-gone_on g c =
    let p = err_from_is_err_and c.from_residual.result c.from_residual.ensures.1 in
    rw p.1 tt

pub returns-in_err-step-clause-worked : goal.returns-in_err-step-clause-worked
returns-in_err-step-clause-worked g c =
    let p = err_from_is_err_and c.from_residual.result c.from_residual.ensures.1 in
    rw p.1 tt

pub returns-in_err-step-clause-less : goal.returns-in_err-step-clause-less
returns-in_err-step-clause-less g c =
    let p = err_from_is_err_and c.from_residual.result c.from_residual.ensures.1 in
    rw p.1 (λ honest w. tt)

-- ---- what the calls want

pub step-requires-clause-safe : goal.step-requires-clause-safe
step-requires-clause-safe g c = c.requires.safe

pub step-requires-clause-pinned : goal.step-requires-clause-pinned
step-requires-clause-pinned g c = c.requires.pinned
