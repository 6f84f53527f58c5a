use Rattle.std.proofs.Common.{◌*◌, length, sym, subst}
use Rattle.page_layout.specs.declared.geometry.Geometry.{Geometry}
use Rattle.std.specs.Result.{is_ok}
use Rattle.onfi_cycles.specs.Cycles.{page_of}
use Rattle.file_die.specs.Store.{Puts}
use Rattle.std.specs.Prelude.{OnErr, OnOk}
use Rattle.file_die.specs.Bytes.{TakesBytes, TakesFewer}
use Rattle.file_die.specs.Rows.{held_in}
use Rattle.file_die.proofs.RowLemmas.{failures_still, kept_still, plain_reading}
use Rattle.file_die.proofs.file_store.DieFileStore.put.Goals as goal

pub returns : goal.returns
returns g c =
    let now = c.args.self.now in
    let held = g.F.ByteFile.held in
    let left = c.write.new.self in
    let counts = c.write.ensures.counts in
    record {
      puts = λ e. subst (λ (z : Geometry). Puts (held_in held (page_of now.rows.geometry) now.rows) c.args.row (page_of now.rows.geometry c.args.page.now) (is_ok c.write.result) (held_in held (page_of z) left)) (sym counts.geometry)
          (c.write.ensures.puts (page_of now.rows.geometry) (plain_reading now.rows.geometry now.rows.size now.sized) e);
      geometry = counts.geometry;
      honest = kept_still held g.F.ByteFile.honest g.F.ByteFile.tells now.rows left counts.geometry c.write.ensures.kept;
      failed = counts.rising;
      rose = counts.rose;
      settled = failures_still now.rows left c.write.result counts.settled;
      room = c.write.ensures.room;
      full = c.write.ensures.full;
      taken = subst (λ n. OnOk c.write.result (TakesBytes g.F.ByteFile.wrote now.rows.file (c.args.row * n) c.args.page.now (length c.args.page.now) left.file)) now.sized c.write.ensures.taken;
      stopped = subst (λ n. OnErr c.write.result (TakesFewer g.F.ByteFile.wrote now.rows.file (c.args.row * n) c.args.page.now left.file)) now.sized c.write.ensures.stopped;
    }
