use Rattle.std.proofs.Common.{◌≡◌, refl, ◌∙◌, ap}
use Rattle.std.proofs.lemmas.Result.{err_from_is_err_and}
use Rattle.promises.specs.Step as step
use Rattle.collection.specs.Safe.{ram}
use Rattle.ftl_device.specs.Turn.{HasTurned}
use Rattle.ftl_device.proofs.PinLemmas.{knows_well}
use Rattle.ftl_device.proofs.CostLemmas.{done_after, on_any}
use Rattle.ftl_device.proofs.BringLemmas.{turned_honestly}
use Rattle.ftl_device.proofs.CursorLemmas.{kept_ready}
use Rattle.ftl_device.proofs.UpkeepLemmas.{upkept_by, not_upkept}
use Rattle.ftl_device.proofs.AnswerLemmas.{told_scarce, told_fewer, told_spent}
use Rattle.ftl_device.proofs.device.Device.turn.Goals as goal

pub returns-in_err-may_flush : goal.returns-in_err-may_flush
returns-in_err-may_flush g c =
    let p = err_from_is_err_and c.from_residual.result c.from_residual.ensures.1 in
    record {
      upkeeps = rw (p.1, p.2) (not_upkept g.N.PageSource.view step.Turn c.args.self.now c.requires.device (λ reply s h. h) _ c.in_err-may_flush.ensures.may_not);
      device = c.requires.device;
      geometry = refl;
      cursor = refl;
      turned = rw p.1 tt;
      rests = rw p.1 (λ none unpinned twelve. tt);
      quiet = rw p.1 (λ honest w. tt);
      falls = rw p.1 (λ honest w none. tt);
      rescued = rw p.1 (λ honest w. tt);
      lowest = rw p.1 (λ honest w. tt);
      worked = rw p.1 (λ honest w some. tt);
    }

pub returns-clause-upkeeps : goal.returns-clause-upkeeps
returns-clause-upkeeps g c = upkept_by g.N.PageSource.view step.Turn c.args.self.now c.finish.new.self c.requires.device c.finish.ensures.device c.in_ok-may_flush.ensures.may (λ reply s h. h)
    c.turn_ready-answer.new.engine c.good-good.result c.turn_ready-answer.result c.finish.result c.finish.ensures.engine c.good-good.ensures c.finish.ensures.answer
    (kept_ready g.N.PageSource.view c.args.self.now c.turn_ready-answer.new.engine c.turn_ready-answer.result c.requires.device c.in_ok-may_flush.ensures.may
    c.turn_ready-answer.ensures.kept c.turn_ready-answer.ensures.memory c.turn_ready-answer.ensures.count)

pub returns-clause-rests : goal.returns-clause-rests
returns-clause-rests g c = λ none unpinned twelve. done_after (λ e. e ≡ c.args.self.now.engine) c.turn_ready-answer.new.engine
    c.finish.new.self.engine c.turn_ready-answer.result c.finish.result c.good-good.result c.finish.ensures.engine c.finish.ensures.answer
    (on_any c.turn_ready-answer.result (c.turn_ready-answer.ensures.rests none unpinned twelve).1)

pub returns-clause-turned : goal.returns-clause-turned
returns-clause-turned g c = done_after (λ e. HasTurned (ram c.args.self.now.engine) (ram e)) c.turn_ready-answer.new.engine c.finish.new.self.engine
    c.turn_ready-answer.result c.finish.result c.good-good.result c.finish.ensures.engine c.finish.ensures.answer c.turn_ready-answer.ensures.turned

pub returns-clause-rescued : goal.returns-clause-rescued
returns-clause-rescued g c = λ honest w. turned_honestly g.N.PageSource.view c.args.self.now.engine c.turn_ready-answer.new.engine c.finish.new.self.engine c.turn_ready-answer.result c.finish.result c.good-good.result
    c.finish.ensures.engine c.finish.ensures.answer (c.turn_ready-answer.ensures.honestly honest (knows_well g.N.PageSource.view.flash c.args.self.now c.requires.device w c.in_ok-may_flush.ensures.may.going)) (λ h. h.rescued)

pub returns-clause-lowest : goal.returns-clause-lowest
returns-clause-lowest g c = λ honest w. turned_honestly g.N.PageSource.view c.args.self.now.engine c.turn_ready-answer.new.engine c.finish.new.self.engine c.turn_ready-answer.result c.finish.result c.good-good.result
    c.finish.ensures.engine c.finish.ensures.answer (c.turn_ready-answer.ensures.honestly honest (knows_well g.N.PageSource.view.flash c.args.self.now c.requires.device w c.in_ok-may_flush.ensures.may.going)) (λ h. h.lowest)

pub returns-clause-quiet : goal.returns-clause-quiet
returns-clause-quiet g c = λ honest w. turned_honestly g.N.PageSource.view c.args.self.now.engine c.turn_ready-answer.new.engine c.finish.new.self.engine c.turn_ready-answer.result c.finish.result c.good-good.result
    c.finish.ensures.engine c.finish.ensures.answer (c.turn_ready-answer.ensures.honestly honest (knows_well g.N.PageSource.view.flash c.args.self.now c.requires.device w c.in_ok-may_flush.ensures.may.going)) (λ h. h.quiet)

pub returns-clause-falls : goal.returns-clause-falls
returns-clause-falls g c = λ honest w none. turned_honestly g.N.PageSource.view c.args.self.now.engine c.turn_ready-answer.new.engine c.finish.new.self.engine c.turn_ready-answer.result c.finish.result c.good-good.result
    c.finish.ensures.engine c.finish.ensures.answer (c.turn_ready-answer.ensures.honestly honest (knows_well g.N.PageSource.view.flash c.args.self.now c.requires.device w c.in_ok-may_flush.ensures.may.going)) (λ h. h.falls none)

pub returns-clause-worked : goal.returns-clause-worked
returns-clause-worked g c = λ honest w some. turned_honestly g.N.PageSource.view c.args.self.now.engine c.turn_ready-answer.new.engine c.finish.new.self.engine c.turn_ready-answer.result c.finish.result c.good-good.result
    c.finish.ensures.engine c.finish.ensures.answer (c.turn_ready-answer.ensures.honestly honest (knows_well g.N.PageSource.view.flash c.args.self.now c.requires.device w c.in_ok-may_flush.ensures.may.going)) (λ h. h.worked some)

-- ---- it was tried

pub returns-clause-device : goal.returns-clause-device
returns-clause-device g c = c.finish.ensures.device

pub returns-clause-geometry : goal.returns-clause-geometry
returns-clause-geometry g c = ap (λ e. e.geometry) c.finish.ensures.engine ∙ c.turn_ready-answer.ensures.kept.ends.geometry

pub returns-clause-cursor : goal.returns-clause-cursor
returns-clause-cursor g c = c.finish.ensures.cursor

-- ---- what the calls want

pub finish-requires : goal.finish-requires
finish-requires g c =
    let ends = c.turn_ready-answer.ensures.kept.ends in
    record {
      safe = ends.safe;
      fault = ends.fault;
      scarce = told_scarce c.turn_ready-answer.result (ram c.args.self.now.engine) (ram c.turn_ready-answer.new.engine) ends.tells;
      fewer = told_fewer c.turn_ready-answer.result (ram c.args.self.now.engine) (ram c.turn_ready-answer.new.engine) _ c.good-good.ensures ends.tells;
      calm = ends.calm_memory;
      spent = told_spent c.turn_ready-answer.result (ram c.args.self.now.engine) (ram c.turn_ready-answer.new.engine) ends.tells;
    }

pub turn_ready-answer-requires : goal.turn_ready-answer-requires
turn_ready-answer-requires g c =
    let may = c.in_ok-may_flush.ensures.may in
    record { safe = c.requires.device.engine; going = may.going; calm = c.requires.device.calm may.going }
