use Rattle.std.proofs.Common.{◌≡◌, ◌<◌, ℕ, None, get_or, map}
use Rattle.lab_origin.specs.Traced.{IsOfRightLength}
use Rattle.lab_origin.proofs.readings.expect_whole.Given as goal

abbrev pub invariant-loop-place : goal.invariant-loop-place
invariant-loop-place g l = record {
  same : map g.D.Dump.bytes l.readings ≡ map g.D.Dump.bytes l.initial.readings;
  before : (i : ℕ) → i < l.place → IsOfRightLength l.geometry (get_or (map g.D.Dump.bytes l.initial.readings) i None);
}
