use Rattle.lab_dump.proofs.SaidLemmas.{AreJudged}
use Rattle.lab_dump.proofs.said.judge.Given as goal

abbrev pub invariant-loop-i : goal.invariant-loop-i
invariant-loop-i l = AreJudged l.geometry l.traces l.i l.initial.said l.said
