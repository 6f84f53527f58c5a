use Rattle.lab_mend.proofs.TriesLemmas.{few_ways, many_ways}
use Rattle.lab_mend.proofs.tries.ways.Goals as goal

pub returns-then-bits-lt64 : goal.returns-then-bits-lt64
returns-then-bits-lt64 c = few_ways c.args.bits c.if-bits-lt64.true

pub returns-else-bits-lt64 : goal.returns-else-bits-lt64
returns-else-bits-lt64 c = many_ways c.args.bits c.if-bits-lt64.false
