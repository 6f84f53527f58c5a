use Rattle.std.proofs.Common.{◌≡◌, ℕ, ◌<◌, ◌≤◌, List, [], length, get_or, map, None}
use Rattle.lab_mend.specs.InStep.{AreAt}
use Rattle.lab_mend.proofs.in_step.expect_ends.Given as goal

abbrev pub invariant-loop-reading : goal.invariant-loop-reading
invariant-loop-reading g l =
    record {
      count : length l.readers ≡ length l.initial.readers;
      unread : (i : ℕ) → l.reading ≤ i → get_or (map g.R.DumpReader.remaining l.readers) i None ≡ get_or (map g.R.DumpReader.remaining l.initial.readers) i None;
      ended : (files : List (List ℕ)) (at : ℕ) → AreAt (map g.R.DumpReader.remaining l.initial.readers) files at → (i : ℕ) → i < l.reading → length (get_or files i []) ≡ at;
    }
