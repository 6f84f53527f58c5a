use Rattle.std.proofs.Common.{refl, ◌∙◌, ap}
use Rattle.std.proofs.lemmas.Result.{err_from_is_err_and}
use Rattle.page_layout.specs.declared.record.Kind.TheVariants.{Sector}
use Rattle.promises.specs.Step as step
use Rattle.ftl_device.proofs.ChangeLemmas.{changed_by, not_changed}
use Rattle.collection.specs.Safe.{ram}
use Rattle.ftl_device.proofs.AnswerLemmas.{told_scarce, told_fewer, told_spent}
use Rattle.ftl_device.proofs.device.Device.write.Goals as goal

pub returns-in_err-may_change : goal.returns-in_err-may_change
returns-in_err-may_change g c =
    let p = err_from_is_err_and c.from_residual.result c.from_residual.ensures.1 in
    record {
      changes = rw (p.1, p.2) (not_changed g.N.PageSource.view c.args.sector c.args.body.now (step.Write c.args.sector c.args.body.now) c.args.self.now c.requires.device (λ reply s h. h) refl _ c.in_err-may_change.ensures.may_not);
      device = c.requires.device;
      geometry = refl;
      cursor = refl;
    }

pub returns-clause-changes : goal.returns-clause-changes
returns-clause-changes g c = changed_by g.N.PageSource.view
    c.args.sector c.args.body.now (step.Write c.args.sector c.args.body.now) c.args.self.now c.finish.new.self c.requires.device
    c.finish.ensures.device c.in_ok-may_change.ensures.may (λ reply s h. h) refl refl Sector (λ xs. refl)
    c.write_ready-answer.new.engine c.good-good.result c.write_ready-answer.result c.finish.result c.finish.ensures.engine c.good-good.ensures
    c.finish.ensures.answer c.write_ready-answer.ensures.changes

-- ---- it was tried

pub returns-clause-device : goal.returns-clause-device
returns-clause-device g c = c.finish.ensures.device

pub returns-clause-geometry : goal.returns-clause-geometry
returns-clause-geometry g c = ap (λ e. e.geometry) c.finish.ensures.engine ∙ c.write_ready-answer.ensures.changes.ends.geometry

pub returns-clause-cursor : goal.returns-clause-cursor
returns-clause-cursor g c = c.finish.ensures.cursor

-- ---- what the calls want

pub finish-requires : goal.finish-requires
finish-requires g c =
    let ends = c.write_ready-answer.ensures.changes.ends in
    record {
      safe = ends.safe;
      fault = ends.fault;
      scarce = told_scarce c.write_ready-answer.result (ram c.args.self.now.engine) (ram c.write_ready-answer.new.engine) ends.tells;
      fewer = told_fewer c.write_ready-answer.result (ram c.args.self.now.engine) (ram c.write_ready-answer.new.engine) _ c.good-good.ensures ends.tells;
      calm = ends.calm_memory;
      spent = told_spent c.write_ready-answer.result (ram c.args.self.now.engine) (ram c.write_ready-answer.new.engine) ends.tells;
    }

pub write_ready-answer-requires : goal.write_ready-answer-requires
write_ready-answer-requires g c =
    let may = c.in_ok-may_change.ensures.may in
    record { safe = c.requires.device.engine; going = may.going; calm = c.requires.device.calm may.going; sector = may.within; body = c.requires.body }
