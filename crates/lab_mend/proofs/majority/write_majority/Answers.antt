use Rattle.std.proofs.Common.{arith}
use Rattle.lab_mend.proofs.MajorityLemmas.{majority_written}
use Rattle.lab_mend.proofs.majority.write_majority.Goals as goal

pub returns : goal.returns
returns c = majority_written c.args.geometry.now c.args.pages.now c.loop-place.out c.args.count (omega arith) (λ j l. c.loop-place.invariant j (omega arith))
