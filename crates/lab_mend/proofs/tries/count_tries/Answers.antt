use Rattle.std.proofs.Common.{arith}
use Rattle.lab_mend.proofs.TriesLemmas.{tries_all}
use Rattle.lab_mend.proofs.tries.count_tries.Goals as goal

pub returns : goal.returns
returns c = tries_all c.args.tried.now c.loop-row.row-index c.loop-row.tries (omega arith) c.loop-row.invariant
