use Rattle.lab_mend.specs.Found.{IsAgreed, sound_below}
use Rattle.lab_mend.proofs.choice.agree.Given as goal

abbrev pub invariant-loop-i : goal.invariant-loop-i
invariant-loop-i l = IsAgreed l.geometry l.pages l.count (sound_below l.geometry l.pages l.i) l.agreed
