use Rattle.std.proofs.Common.{◌≡◌, ◌/◌, List, ℕ, length, Some}
use Rattle.page_layout.specs.Geometry.{page_bytes, row_count}
use Rattle.lab_dump.specs.Told.{pages_told_of}
use Rattle.lab_correct.specs.Decoded.{decoded_bytes, raw_size}
use Rattle.lab_correct.proofs.coded_look.told_decoded.Given as goal

abbrev pub invariant-loop-row : goal.invariant-loop-row
invariant-loop-row g l = record {
  raw_whole : length l.raw ≡ raw_size l.geometry.data_bytes l.geometry.spare_bytes;
  whole : length l.page ≡ page_bytes l.geometry;
  same : g.D.Dump.bytes l.dump ≡ g.D.Dump.bytes l.fn.dump;
  told : (all : List ℕ) → g.D.Dump.bytes l.fn.dump ≡ Some all → row_count l.geometry ≡ length all / raw_size l.geometry.data_bytes l.geometry.spare_bytes
      → l.told ≡ pages_told_of l.geometry.data_bytes l.geometry.spare_bytes l.row (decoded_bytes l.geometry.data_bytes l.geometry.spare_bytes all);
}
