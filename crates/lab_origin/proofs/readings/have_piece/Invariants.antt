use Rattle.std.proofs.Common.{◌≡◌, ℕ, List, false, length, map, take}
use Rattle.lab_dump.specs.Scan.{Tell}
use Rattle.lab_origin.specs.Tracing.{have_at}
use Rattle.lab_origin.proofs.readings.have_piece.Given as goal

abbrev pub invariant-loop-place : goal.invariant-loop-place
invariant-loop-place g l = record {
  size : length l.other ≡ length l.initial.other;
  same : map g.D.Dump.bytes l.readings ≡ map g.D.Dump.bytes l.initial.readings;
  none : (files : List (List ℕ)) → Tell (map g.D.Dump.bytes l.initial.readings) files → have_at l.at l.piece (take l.place files) ≡ false;
}
