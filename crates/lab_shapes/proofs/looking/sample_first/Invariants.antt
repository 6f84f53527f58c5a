use Rattle.std.proofs.Common.{◌≡◌, ◌+◌, ◌≤◌, List, ℕ, length, Some}
use Rattle.page_layout.specs.Geometry.{page_bytes, row_count}
use Rattle.lab_dump.specs.Sample.{looked_count}
use Rattle.lab_shapes.specs.Ordered.{ordered, sample_first}
use Rattle.lab_shapes.proofs.looking.sample_first.Given as goal

abbrev pub invariant-loop-place : goal.invariant-loop-place
invariant-loop-place g l = record {
  raw_room : length l.raw ≡ page_bytes l.geometry + 2;
  page_room : length l.page ≡ page_bytes l.geometry;
  few : l.sample.sound + l.sample.unsound ≤ l.place;
  looked_is : l.sample.looked ≡ looked_count (row_count l.geometry);
  same : g.D.Dump.bytes l.dump ≡ g.D.Dump.bytes l.fn.dump;
  sample : (all : List ℕ) → g.D.Dump.bytes l.fn.dump ≡ Some all → l.size ≡ length all → l.sample ≡ sample_first l.geometry (ordered l.geometry l.arrangement all) l.place;
}
