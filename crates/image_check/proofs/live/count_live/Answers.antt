use Rattle.std.proofs.Common.{arith}
use Rattle.image_check.proofs.CountingLemmas.{counts_are}
use Rattle.image_check.proofs.live.count_live.Goals as goal

pub returns : goal.returns
returns c = λ image keys.
    counts_are c.args.geometry.now image c.args.newest.now c.count_rows.new.counts keys (omega arith) (rw (← c.pages.ensures) c.count_rows.ensures)
