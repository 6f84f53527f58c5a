use Rattle.lab_dump.proofs.KeyLemmas.{AreStated}
use Rattle.lab_dump.proofs.survey.note_keys.Given as goal

abbrev pub invariant-loop-i : goal.invariant-loop-i
invariant-loop-i l = AreStated l.traces l.i l.keys
