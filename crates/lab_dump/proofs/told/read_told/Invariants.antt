use Rattle.std.proofs.Common.{◌≡◌, List, ℕ, length, Some}
use Rattle.page_layout.specs.Geometry.{page_bytes}
use Rattle.lab_dump.specs.Told.{pages_told_of}
use Rattle.lab_dump.proofs.told.read_told.Given as goal

abbrev pub invariant-loop-row : goal.invariant-loop-row
invariant-loop-row g l = record {
  whole : length l.page ≡ page_bytes l.geometry;
  same : g.D.Dump.bytes l.dump ≡ g.D.Dump.bytes l.fn.dump;
  told : (all : List ℕ) → g.D.Dump.bytes l.fn.dump ≡ Some all → l.told ≡ pages_told_of l.geometry.data_bytes l.geometry.spare_bytes l.row all;
}
