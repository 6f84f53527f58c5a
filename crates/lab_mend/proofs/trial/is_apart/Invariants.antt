use Rattle.std.proofs.Common.{◌≡◌, false, take}
use Rattle.std.specs.List.{list_any}
use Rattle.lab_mend.specs.Trial.{differ_in}
use Rattle.lab_mend.specs.Tried.{first_at, pages_at}
use Rattle.lab_mend.proofs.trial.is_apart.Given as goal

abbrev pub invariant-loop-n : goal.invariant-loop-n
invariant-loop-n l = list_any (λ q. differ_in (first_at l.geometry l.pages l.places) q l.bit) (take l.n (pages_at l.geometry l.pages l.places)) ≡ false
