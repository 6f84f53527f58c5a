use Rattle.std.proofs.Common.{◌∙◌, ◌<◌, Ok, Err, refl, ap, sym, subst}
use Rattle.std.proofs.lemmas.Result.{err_from_is_err_and}
use Rattle.page_layout.specs.declared.geometry.Geometry.{Geometry}
use Rattle.page_layout.specs.declared.record.Kind.TheVariants.{Sector}
use Rattle.promises.specs.Step as step
use Rattle.ftl_device.proofs.SectorLemmas.{change_unready, change_page}
use Rattle.ftl_device.proofs.ready.write_ready.Goals as goal

-- it was not made ready
pub returns-in_err-make_ready : goal.returns-in_err-make_ready
returns-in_err-make_ready g c =
    let p = err_from_is_err_and c.from_residual.result c.from_residual.ensures.1 in
    record { changes = rw (p.1, p.2) (change_unready g.N.PageSource.view Sector c.args.sector c.args.body.now (step.Write c.args.sector c.args.body.now) c.args.engine.now c.make_ready.new.engine _ c.in_err-make_ready.ensures.kept c.in_err-make_ready.ensures.readies) }

-- its page was refused
pub returns-in_err-write_sector : goal.returns-in_err-write_sector
returns-in_err-write_sector g c =
    let p = err_from_is_err_and c.from_residual-in_err-write_sector.result c.from_residual-in_err-write_sector.ensures.1 in
    record {
      changes = rw (p.1, p.2) (change_page g.N.PageSource.view Sector c.args.sector c.args.body.now (step.Write c.args.sector c.args.body.now) c.args.engine.now c.make_ready.new.engine c.write_sector.new.self _
          c.in_ok-make_ready.ensures.kept c.in_ok-make_ready.ensures.readies c.in_ok-make_ready.ensures.cost c.in_ok-make_ready.ensures.checked
          c.write_sector.ensures.goes c.write_sector.ensures.pin c.write_sector.ensures.keys c.write_sector.ensures.no_more c.write_sector.ensures.moved c.write_sector.ensures.scratch refl refl
          (Err _) c.in_err-write_sector.ensures.stands c.in_err-write_sector.ensures.settled c.in_err-write_sector.ensures.programmed c.write_sector.ensures.page c.in_err-write_sector.ensures.cost c.in_err-write_sector.ensures.truth
          c.in_err-write_sector.ensures.stops c.in_err-write_sector.ensures.cut
          (λ its bytes. (its, bytes)) (λ image held. held));
    }

-- it was programmed
pub returns : goal.returns
returns g c = record {
  changes = change_page g.N.PageSource.view Sector c.args.sector c.args.body.now (step.Write c.args.sector c.args.body.now) c.args.engine.now c.make_ready.new.engine c.write_sector.new.self _
      c.in_ok-make_ready.ensures.kept c.in_ok-make_ready.ensures.readies c.in_ok-make_ready.ensures.cost c.in_ok-make_ready.ensures.checked
      c.write_sector.ensures.goes c.write_sector.ensures.pin c.write_sector.ensures.keys c.write_sector.ensures.no_more c.write_sector.ensures.moved c.write_sector.ensures.scratch refl refl
      (Ok _) c.in_ok-write_sector.ensures.stands c.in_ok-write_sector.ensures.settled c.in_ok-write_sector.ensures.programmed c.write_sector.ensures.page c.in_ok-write_sector.ensures.cost c.in_ok-write_sector.ensures.truth c.in_ok-write_sector.ensures.stops c.in_ok-write_sector.ensures.cut
      (λ its bytes. (its, bytes)) (λ image held. held);
}

-- ---- what the calls want

pub make_ready-requires : goal.make_ready-requires
make_ready-requires g c = record { safe = c.requires.safe; going = c.requires.going; calm = c.requires.calm; sector = c.requires.sector }

pub write_sector-requires : goal.write_sector-requires
write_sector-requires g c =
    let same = c.in_ok-make_ready.ensures.kept.ends.geometry in
    record {
      safe = c.in_ok-make_ready.ensures.kept.ends.safe;
      sector = subst (λ (geometry : Geometry). c.args.sector < geometry.sectors) (sym same) c.requires.sector;
      cached = c.in_ok-make_ready.ensures.holds;
      body = c.requires.body ∙ sym (ap (λ (geometry : Geometry). geometry.data_bytes) same);
    }
