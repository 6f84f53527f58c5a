use Rattle.std.proofs.Common.{◌*◌, sym, subst}
use Rattle.page_layout.specs.declared.geometry.Geometry.{Geometry}
use Rattle.std.specs.Result.{is_ok}
use Rattle.onfi_cycles.specs.Cycles.{page_of}
use Rattle.file_die.specs.Store.{Loads}
use Rattle.std.specs.Prelude.{OnErr}
use Rattle.file_die.specs.Bytes.{Gives}
use Rattle.file_die.specs.Rows.{TellsEnd, held_in}
use Rattle.file_die.proofs.RowLemmas.{failures_still, kept_still, where_ok}
use Rattle.file_die.proofs.file_store.DieFileStore.load.Goals as goal

pub returns : goal.returns
returns g c =
    let now = c.args.self.now in
    let held = g.F.ByteFile.held in
    let left = c.read.new.self in
    let counts = c.read.ensures.counts in
    record {
      loads = λ e. subst (λ (z : Geometry). Loads (held_in held (page_of now.rows.geometry) now.rows) c.args.row (page_of now.rows.geometry c.read.new.to) (is_ok c.read.result) (held_in held (page_of z) left)) (sym counts.geometry)
          (c.read.ensures.loads (page_of now.rows.geometry) e);
      geometry = counts.geometry;
      honest = kept_still held g.F.ByteFile.honest g.F.ByteFile.tells now.rows left counts.geometry c.read.ensures.kept;
      failed = counts.rising;
      rose = counts.rose;
      settled = failures_still now.rows left c.read.result counts.settled;
      unfilled = c.read.ensures.unfilled;
      gave = where_ok c.read.result (λ d. subst (λ n. Gives g.F.ByteFile.gave now.rows.file (c.args.row * n) c.read.new.to left.file) now.sized (c.read.ensures.gave d));
      ended = subst (λ n. OnErr c.read.result (TellsEnd g.F.ByteFile.gave c.args.row n now.rows left)) now.sized c.read.ensures.ended;
    }
