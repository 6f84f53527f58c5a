use Rattle.std.proofs.Common.{◌≡◌, ◌+◌, List, ℕ, length, Some}
use Rattle.page_layout.specs.Geometry.{page_bytes, row_count}
use Rattle.lab_arrange.specs.Arranged.{arranged_piece}
use Rattle.lab_arrange.proofs.PieceLemmas.{IsSized, IsWritten, Of}
use Rattle.lab_arrange.proofs.arrange.write_pages.Given as goal

abbrev pub invariant-loop-row : goal.invariant-loop-row
invariant-loop-row g l = record {
  raw_room : length l.raw ≡ page_bytes l.geometry + 2;
  page_room : length l.page ≡ page_bytes l.geometry;
  same : g.D.Dump.bytes l.dump ≡ g.D.Dump.bytes l.fn.dump;
  sized : Of (g.T.Pieces.pieces l.target) (IsSized (page_bytes l.geometry) (row_count l.geometry) l.row);
  written : (all : List ℕ) → g.D.Dump.bytes l.fn.dump ≡ Some all → l.size ≡ length all → Of (g.T.Pieces.pieces l.target) (IsWritten (arranged_piece l.geometry l.arrangement all) (row_count l.geometry) l.row);
}
