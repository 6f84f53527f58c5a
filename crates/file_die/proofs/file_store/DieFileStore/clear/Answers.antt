use Rattle.std.proofs.Common.{sym, subst}
use Rattle.page_layout.specs.declared.geometry.Geometry.{Geometry}
use Rattle.std.specs.Result.{is_ok}
use Rattle.onfi_cycles.specs.Cycles.{page_of}
use Rattle.file_die.specs.Store.{Clears}
use Rattle.file_die.specs.Rows.{held_in}
use Rattle.file_die.proofs.RowLemmas.{failures_still, kept_still, plain_reading}
use Rattle.file_die.proofs.file_store.DieFileStore.clear.Goals as goal

pub returns : goal.returns
returns g c =
    let now = c.args.self.now in
    let held = g.F.ByteFile.held in
    let left = c.erase.new.self in
    let counts = c.erase.ensures.counts in
    record {
      clears = λ e. subst (λ (z : Geometry). Clears (held_in held (page_of now.rows.geometry) now.rows) c.args.block (is_ok c.erase.result) (held_in held (page_of z) left)) (sym counts.geometry)
          (c.erase.ensures.clears (page_of now.rows.geometry) (plain_reading now.rows.geometry now.rows.size now.sized) e);
      geometry = counts.geometry;
      honest = kept_still held g.F.ByteFile.honest g.F.ByteFile.tells now.rows left counts.geometry c.erase.ensures.kept;
      failed = counts.rising;
      rose = counts.rose;
      settled = failures_still now.rows left c.erase.result counts.settled;
      room = c.erase.ensures.room;
      full = c.erase.ensures.full;
      taken = c.erase.ensures.taken;
      stopped = c.erase.ensures.stopped;
    }
