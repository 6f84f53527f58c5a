use Rattle.lab_dump.proofs.ConcludeLemmas.{AreMarked}
use Rattle.lab_dump.proofs.concluding.mark_kept.Given as goal

abbrev pub invariant-loop-i : goal.invariant-loop-i
invariant-loop-i l = AreMarked l.pages l.traces l.i l.kept
