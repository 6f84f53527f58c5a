use Rattle.std.proofs.Common.{ap, refl, subst, sym, ◌∙◌}
use Rattle.std.proofs.lemmas.Result.{err_from_is_err_and}
use Rattle.page_layout.specs.declared.geometry.Geometry.{Geometry}
use Rattle.page_layout.specs.Flash.{Flash}
use Rattle.commands.specs.Check.{HasImageLength}
use Rattle.commands.specs.Serve.{flash_behind}
use Rattle.commands.proofs.MigrateEnds.{die_migrated}
use Rattle.commands.proofs.migrate.migrate_die.Goals as goal

pub renew_and_flush-came-requires : goal.renew_and_flush-came-requires
renew_and_flush-came-requires c =
    let its = c.in_ok-device.ensures.ok in
    record { device = its.begun.device; honest = refl; well = its.well; sized = its.sized; roomy = its.roomy }

pub image_back-requires : goal.image_back-requires
image_back-requires c =
    let its = c.renew_and_flush-came.ensures in
    let sized = ap (λ (f : Flash). f.geometry) (ap flash_behind c.into_nand.ensures) ∙ (its.device.engine.geometry ∙ its.sized) in
    record { whole = subst (λ (k : Geometry). HasImageLength k c.args.image.now) (sym sized) c.requires.whole }

pub returns : goal.returns
returns c =
    let its = c.renew_and_flush-came.ensures in
    record {
      ok = die_migrated c.args.asked.now.geometry _ _ c.args.driver c.into_nand.result c.in_ok-device.device c.renew_and_flush-came.new.device c.renew_and_flush-came.result _
          c.in_ok-device.ensures.ok its.renews its.keeps its.rose its.settled its.device its.sized c.into_nand.ensures c.image_back.ensures;
      fault = tt;
    }

pub returns-in_err-device : goal.returns-in_err-device
returns-in_err-device c =
    let p = err_from_is_err_and c.from_residual.result c.from_residual.ensures.1 in
    rw (p.1, p.2) (record { ok = tt; fault = c.in_err-device.ensures.fault })
