use Rattle.std.proofs.Common.{◌≡◌}
use Rattle.std.specs.Prelude.{vec_capacity}
use Rattle.lab_mend.proofs.TriedLemmas.{ArePlaces}
use Rattle.lab_mend.proofs.choice.list_programmed.Given as goal

abbrev pub invariant-loop-i : goal.invariant-loop-i
invariant-loop-i l = record { places : ArePlaces l.geometry l.pages l.i l.places.items; room : vec_capacity l.places ≡ vec_capacity l.fn.places }
