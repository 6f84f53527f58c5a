use Rattle.std.proofs.Common.{sym, subst}
use Rattle.page_layout.specs.declared.geometry.Geometry.{Geometry}
use Rattle.std.specs.Result.{is_ok}
use Rattle.onfi_cycles.specs.Cycles.{page_of}
use Rattle.file_die.specs.Store.{Syncs}
use Rattle.file_die.specs.Rows.{held_in}
use Rattle.file_die.proofs.RowLemmas.{failures_still, kept_still, plain_reading}
use Rattle.file_die.proofs.file_store.DieFileStore.sync.Goals as goal

pub returns : goal.returns
returns g c =
    let now = c.args.self.now in
    let held = g.F.ByteFile.held in
    let left = c.sync.new.self in
    let counts = c.sync.ensures.counts in
    record {
      syncs = λ e. subst (λ (z : Geometry). Syncs (held_in held (page_of now.rows.geometry) now.rows) (is_ok c.sync.result) (held_in held (page_of z) left)) (sym counts.geometry)
          (c.sync.ensures.syncs (page_of now.rows.geometry) (plain_reading now.rows.geometry now.rows.size now.sized) e);
      geometry = counts.geometry;
      honest = kept_still held g.F.ByteFile.honest g.F.ByteFile.tells now.rows left counts.geometry c.sync.ensures.kept;
      failed = counts.rising;
      rose = counts.rose;
      settled = failures_still now.rows left c.sync.result counts.settled;
      unfilled = c.sync.ensures.unfilled;
      once = c.sync.ensures.once;
      refused = c.sync.ensures.refused;
    }
