use Rattle.std.proofs.Common.{◌≡◌, ℕ, List, length, map}
use Rattle.lab_mend.specs.InStep.{AreAt, AreBetween}
use Rattle.lab_mend.proofs.in_step.read_row.Given as goal

abbrev pub invariant-loop-reading : goal.invariant-loop-reading
invariant-loop-reading g l =
    record {
      count : length l.readers ≡ length l.initial.readers;
      room : length l.pieces ≡ length l.initial.pieces;
      between : (files : List (List ℕ)) (at : ℕ) → AreAt (map g.R.DumpReader.remaining l.initial.readers) files at → AreBetween (map g.R.DumpReader.remaining l.readers) files at l.size l.pieces l.reading;
    }
