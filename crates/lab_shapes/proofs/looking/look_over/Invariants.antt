use Rattle.std.proofs.Common.{◌≡◌, ◌+◌, ◌≤◌, List, ℕ, length, Some}
use Rattle.std.specs.Prelude.{IfSome}
use Rattle.page_layout.specs.Geometry.{page_bytes, row_count}
use Rattle.lab_dump.specs.Sample.{looked_count}
use Rattle.lab_shapes.specs.Ordered.{look_in, ordered, sample_first}
use Rattle.lab_shapes.proofs.LookLemmas.{turns_below}
use Rattle.lab_shapes.proofs.looking.look_over.Given as goal

abbrev pub invariant-loop-place : goal.invariant-loop-place
invariant-loop-place g l = record {
  raw_room : length l.raw ≡ page_bytes l.geometry + 2;
  page_room : length l.page ≡ page_bytes l.geometry;
  few : l.sample.sound + l.sample.unsound ≤ l.place;
  few_turns : l.in_turn ≤ l.place;
  looked_is : l.sample.looked ≡ looked_count (row_count l.geometry);
  same : g.D.Dump.bytes l.dump ≡ g.D.Dump.bytes l.fn.dump;
  last : IfSome l.last (λ last. (all : List ℕ) → g.D.Dump.bytes l.fn.dump ≡ Some all → l.size ≡ length all → last.1 ≡ look_in l.geometry (ordered l.geometry l.arrangement all) last.0);
  sample : (all : List ℕ) → g.D.Dump.bytes l.fn.dump ≡ Some all → l.size ≡ length all → l.sample ≡ sample_first l.geometry (ordered l.geometry l.arrangement all) l.place;
  turns : (all : List ℕ) → g.D.Dump.bytes l.fn.dump ≡ Some all → l.size ≡ length all → l.in_turn ≡ turns_below l.geometry (ordered l.geometry l.arrangement all) l.place;
}
