use Rattle.std.proofs.Common.{arith, slice_get, get_or, Some, ◌≡◌}
use Rattle.std.proofs.lemmas.Option.{slice_get-get_or}
use Rattle.ftl_device.proofs.LoadLemmas.{load_next}
use Rattle.ftl_device.proofs.begin.load_stale.Goals as goal

pub loop-sector-preserved : goal.loop-sector-preserved
loop-sector-preserved c =
    let claim = c.args.certificate.now in
    let stale = c.args.stale.now in
    let i = c.loop-sector.sector-index in
    let at : slice_get stale i ≡ Some (get_or stale i 0) = slice_get-get_or stale i 0 (omega arith) in
    record {
      loaded = load_next c.args.mapping.now.geometry c.args.mapping.now.share claim stale i (get_or stale i 0) c.sector_row-row.result c.loop-sector.mapping c.load.new.self c.set_dirty.new.self
          c.requires.rising c.requires.few at c.sector_row-row.ensures.is c.loop-sector.invariant.loaded c.in_ok-load.ensures.loaded c.set_dirty.ensures.set;
      valid = c.set_dirty.ensures.valid;
    }
