use Rattle.std.proofs.Common.{◌*◌, arith}
use Rattle.page_layout.specs.Geometry.{page_bytes}
use Rattle.lab_mend.proofs.TriesLemmas.{turn_tries_all}
use Rattle.lab_mend.proofs.tries.count_turn_tries.Goals as goal

pub returns : goal.returns
returns c = turn_tries_all (8 * page_bytes c.args.geometry.now) c.args.mends.now c.loop-mend.mend-index c.loop-mend.tries (omega arith) c.loop-mend.invariant
