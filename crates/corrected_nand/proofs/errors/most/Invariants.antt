use Rattle.corrected_nand.proofs.Most.{MostOf}
use Rattle.corrected_nand.proofs.errors.most.Given as goal

abbrev pub invariant-loop-block : goal.invariant-loop-block
invariant-loop-block l = MostOf l.counts l.block l.most l.found
