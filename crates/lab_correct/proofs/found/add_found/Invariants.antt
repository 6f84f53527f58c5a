use Rattle.std.proofs.Common.{◌≡◌, ◌++◌, map, take}
use Rattle.std.specs.Prelude.{vec_capacity}
use Rattle.lab_correct.specs.Coded.{found_as}
use Rattle.lab_correct.proofs.found.add_found.Given as goal

abbrev pub invariant-loop-fit : goal.invariant-loop-fit
invariant-loop-fit l = record {
  added : l.found.items ≡ l.fn.found.items ++ map (found_as l.coded) (take l.fit-index l.fits);
  places : vec_capacity l.found ≡ vec_capacity l.fn.found;
}
