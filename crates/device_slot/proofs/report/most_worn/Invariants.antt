use Rattle.device_slot.proofs.MostLemmas.{IsMostUpTo}
use Rattle.device_slot.proofs.report.most_worn.Given as goal

abbrev pub invariant-loop-block : goal.invariant-loop-block
invariant-loop-block l = IsMostUpTo l.table l.block l.most
