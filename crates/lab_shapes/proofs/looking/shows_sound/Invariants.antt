use Rattle.std.proofs.Common.{◌≡◌, ◌+◌, List, ℕ, length, Some}
use Rattle.page_layout.specs.Geometry.{page_bytes}
use Rattle.lab_shapes.specs.Ordered.{ordered}
use Rattle.lab_shapes.proofs.LookLemmas.{none_below}
use Rattle.lab_shapes.proofs.looking.shows_sound.Given as goal

abbrev pub invariant-loop-place : goal.invariant-loop-place
invariant-loop-place g l = record {
  raw_room : length l.raw ≡ page_bytes l.geometry + 2;
  page_room : length l.page ≡ page_bytes l.geometry;
  same : g.D.Dump.bytes l.dump ≡ g.D.Dump.bytes l.fn.dump;
  none : (all : List ℕ) → g.D.Dump.bytes l.fn.dump ≡ Some all → l.size ≡ length all → none_below l.geometry (ordered l.geometry l.arrangement all) l.place;
}
