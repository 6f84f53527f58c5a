use Rattle.lab_dump.proofs.ComparingLemmas.{AreTold}
use Rattle.lab_dump.proofs.compare.note_lost.Given as goal

abbrev pub invariant-loop-n : goal.invariant-loop-n
invariant-loop-n l = AreTold l.certificate l.traces l.n l.lost
