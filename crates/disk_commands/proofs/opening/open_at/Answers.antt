use Rattle.std.proofs.Common.{ap, inl, ◌∙◌}
use Rattle.disk_server.proofs.FaultLemmas.{is_handed_on}
use Rattle.disk_commands.proofs.DamageLemmas.{no_more_then, not_opened, shape_back, was_opened}
use Rattle.disk_commands.proofs.OpeningLemmas.{not_locked}
use Rattle.disk_commands.proofs.opening.open_at.Goals as goal

pub returns-in-Err : goal.returns-in-Err
returns-in-Err g c = record {
  ok = tt;
  fault = not_locked (g.F.DiskFiles.answers c.args.files.now) c.in-Err.fault c.args.path c.told_at.result c.in-Err.ensures.failed c.told_at.ensures;
  opened = c.lock.ensures.opened;
  within = tt;
  no_more = tt;
  kept = c.lock.ensures.kept;
}

pub returns-in_err-told : goal.returns-in_err-told
returns-in_err-told g c =
    let same = c.in_err-told.ensures.same in
    rw (is_handed_on _ _ c.from_residual.ensures.1) (record {
      ok = tt;
      fault = inl (shape_back (g.F.DiskFiles.answers c.args.files.now) (g.F.DiskFiles.answers c.lock.new.self) c.args.path.now c.in_err-told.field-0.0 c.in-Ok.ensures.no_more c.in_err-told.ensures.fault);
      opened = ap g.F.DiskFiles.opened same ∙ c.lock.ensures.opened;
      within = tt;
      no_more = tt;
      kept = ap g.F.DiskFiles.kept same ∙ c.lock.ensures.kept;
    })

pub returns-in-Ok-open : goal.returns-in-Ok-open
returns-in-Ok-open g c =
    let answers = g.F.DiskFiles.answers in
    let same = c.in_ok-told.ensures.same in
    let it = c.in-Ok-open.ensures in
    record {
      ok = was_opened (answers c.args.files.now) (answers c.lock.new.self) (answers c.text_at.new.files) c.args.path c.in_ok-told.told c.in-Ok.ensures.no_more
          (ap answers same) c.in_ok-told.ensures.ok g.F.Store.Store.held g.F.Store.Store.honest _ it.held it.geometry it.honest;
      fault = tt;
      opened = it.opened ∙ (ap g.F.DiskFiles.opened same ∙ c.lock.ensures.opened);
      within = c.in_ok-told.ensures.ok.says.tells.shape.within;
      no_more = no_more_then (answers c.args.files.now) (answers c.lock.new.self) (answers c.text_at.new.files) _ c.in-Ok.ensures.no_more (ap answers same) it.no_more;
      kept = it.kept ∙ (ap g.F.DiskFiles.kept same ∙ c.lock.ensures.kept);
    }

pub returns-in-Err-open : goal.returns-in-Err-open
returns-in-Err-open g c =
    let answers = g.F.DiskFiles.answers in
    let same = c.in_ok-told.ensures.same in
    let it = c.in-Err-open.ensures in
    record {
      ok = tt;
      fault = not_opened (answers c.args.files.now) (answers c.lock.new.self) (answers c.text_at.new.files) c.args.path c.in_ok-told.told c.in-Ok.ensures.no_more
          (ap answers same) c.in_ok-told.ensures.ok c.in-Err-open.fault _ c.told_at-in-Err-open.result it.failed c.die_bytes.ensures c.told_at-in-Err-open.ensures;
      opened = it.opened ∙ (ap g.F.DiskFiles.opened same ∙ c.lock.ensures.opened);
      within = tt;
      no_more = tt;
      kept = it.kept ∙ (ap g.F.DiskFiles.kept same ∙ c.lock.ensures.kept);
    }
