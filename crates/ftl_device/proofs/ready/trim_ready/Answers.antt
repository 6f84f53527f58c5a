use Rattle.std.proofs.Common.{◌∙◌, ◌<◌, Ok, Err, refl, ap, sym, subst}
use Rattle.std.proofs.lemmas.Result.{err_from_is_err_and}
use Rattle.page_layout.specs.declared.geometry.Geometry.{Geometry}
use Rattle.page_layout.specs.declared.record.Kind.TheVariants.{Trim}
use Rattle.page_layout.specs.Array.{zeros}
use Rattle.promises.specs.Step as step
use Rattle.collection.specs.Safe.{ram}
use Rattle.ftl_device.specs.Calls.{HasPage}
use Rattle.ftl_device.proofs.SectorLemmas.{change_unready, change_page, change_sized}
use Rattle.ftl_device.proofs.ready.trim_ready.Goals as goal

-- it was not made ready
pub returns-in_err-make_ready : goal.returns-in_err-make_ready
returns-in_err-make_ready g c =
    let p = err_from_is_err_and c.from_residual.result c.from_residual.ensures.1 in
    record { changes = rw (p.1, p.2) (change_unready g.N.PageSource.view Trim c.args.sector (zeros c.args.engine.now.geometry) (step.Trim c.args.sector) c.args.engine.now c.make_ready.new.engine _ c.in_err-make_ready.ensures.kept c.in_err-make_ready.ensures.readies) }

-- its page was refused: its 00h bytes are as many as the geometry says, which is as before
pub returns-in_err-trim_sector : goal.returns-in_err-trim_sector
returns-in_err-trim_sector g c =
    let p = err_from_is_err_and c.from_residual-in_err-trim_sector.result c.from_residual-in_err-trim_sector.ensures.1 in
    let same = c.in_ok-make_ready.ensures.kept.ends.geometry in
    record {
      changes = rw (p.1, p.2) (change_sized g.N.PageSource.view Trim c.args.sector (step.Trim c.args.sector) c.args.engine.now c.trim_sector.new.self _ _ _ same
          (change_page g.N.PageSource.view Trim c.args.sector (zeros c.make_ready.new.engine.geometry) (step.Trim c.args.sector) c.args.engine.now c.make_ready.new.engine c.trim_sector.new.self _
          c.in_ok-make_ready.ensures.kept c.in_ok-make_ready.ensures.readies c.in_ok-make_ready.ensures.cost c.in_ok-make_ready.ensures.checked
          c.trim_sector.ensures.goes c.trim_sector.ensures.pin c.trim_sector.ensures.keys c.trim_sector.ensures.no_more c.trim_sector.ensures.moved c.trim_sector.ensures.scratch refl (ap zeros (sym same))
          (Err _) c.in_err-trim_sector.ensures.stands c.in_err-trim_sector.ensures.settled c.in_err-trim_sector.ensures.programmed c.trim_sector.ensures.page c.in_err-trim_sector.ensures.cost c.in_err-trim_sector.ensures.truth c.in_err-trim_sector.ensures.stops c.in_err-trim_sector.ensures.cut
          (λ its bytes. (its, bytes ∙ ap zeros same)) (λ image held. subst (λ h. HasPage Trim c.args.sector (zeros h) (ram c.trim_sector.new.self) image) same held)));
    }

-- it was programmed
pub returns : goal.returns
returns g c =
    let same = c.in_ok-make_ready.ensures.kept.ends.geometry in
    record {
      changes = change_sized g.N.PageSource.view Trim c.args.sector (step.Trim c.args.sector) c.args.engine.now c.trim_sector.new.self _ _ _ same
          (change_page g.N.PageSource.view Trim c.args.sector (zeros c.make_ready.new.engine.geometry) (step.Trim c.args.sector) c.args.engine.now c.make_ready.new.engine c.trim_sector.new.self _
          c.in_ok-make_ready.ensures.kept c.in_ok-make_ready.ensures.readies c.in_ok-make_ready.ensures.cost c.in_ok-make_ready.ensures.checked
          c.trim_sector.ensures.goes c.trim_sector.ensures.pin c.trim_sector.ensures.keys c.trim_sector.ensures.no_more c.trim_sector.ensures.moved c.trim_sector.ensures.scratch refl (ap zeros (sym same))
          (Ok _) c.in_ok-trim_sector.ensures.stands c.in_ok-trim_sector.ensures.settled c.in_ok-trim_sector.ensures.programmed c.trim_sector.ensures.page c.in_ok-trim_sector.ensures.cost c.in_ok-trim_sector.ensures.truth c.in_ok-trim_sector.ensures.stops c.in_ok-trim_sector.ensures.cut
          (λ its bytes. (its, bytes ∙ ap zeros same)) (λ image held. subst (λ h. HasPage Trim c.args.sector (zeros h) (ram c.trim_sector.new.self) image) same held));
    }

-- ---- what the calls want

pub make_ready-requires : goal.make_ready-requires
make_ready-requires g c = record { safe = c.requires.safe; going = c.requires.going; calm = c.requires.calm; sector = c.requires.sector }

pub trim_sector-requires : goal.trim_sector-requires
trim_sector-requires g c = record {
  safe = c.in_ok-make_ready.ensures.kept.ends.safe;
  sector = subst (λ (geometry : Geometry). c.args.sector < geometry.sectors) (sym c.in_ok-make_ready.ensures.kept.ends.geometry) c.requires.sector;
  cached = c.in_ok-make_ready.ensures.holds;
}
