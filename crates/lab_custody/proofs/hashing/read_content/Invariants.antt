use Rattle.std.proofs.Common.{◌≡◌, ◌-◌, ◌^◌, ℕ, List, length}
use Rattle.std.specs.Io.KnownBytes.{Consumes}
use Rattle.lab_report.specs.Content.{HasHashedBytes, count_of}
use Rattle.lab_custody.proofs.hashing.read_content.Given as goal

abbrev pub invariant-pieces : goal.invariant-pieces
invariant-pieces g l = record {
  size : length l.buffer ≡ length l.fn.buffer;
  taken : (bytes : List ℕ) × HasHashedBytes bytes l.hashing × Consumes (g.R.DumpReader.remaining l.fn.reader) (g.R.DumpReader.remaining l.reader) bytes;
}

abbrev pub decreases-pieces : goal.decreases-pieces
decreases-pieces g l = 2 ^ 64 - count_of l.hashing
