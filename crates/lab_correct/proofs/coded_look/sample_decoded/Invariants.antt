use Rattle.std.proofs.Common.{◌≡◌, ◌+◌, ◌/◌, ◌≤◌, List, ℕ, length, Some}
use Rattle.page_layout.specs.Geometry.{page_bytes, row_count}
use Rattle.lab_dump.specs.Sample.{looked_count}
use Rattle.lab_dump.proofs.SampleLemmas.{sample_below}
use Rattle.lab_correct.specs.Decoded.{decoded_bytes, raw_size}
use Rattle.lab_correct.proofs.coded_look.sample_decoded.Given as goal

abbrev pub invariant-loop-place : goal.invariant-loop-place
invariant-loop-place g l = record {
  raw_whole : length l.raw ≡ raw_size l.geometry.data_bytes l.geometry.spare_bytes;
  whole : length l.page ≡ page_bytes l.geometry;
  looked_is : l.sample.looked ≡ looked_count (row_count l.geometry);
  few : l.sample.sound + l.sample.unsound ≤ l.place;
  same : g.D.Dump.bytes l.dump ≡ g.D.Dump.bytes l.fn.dump;
  sample : (all : List ℕ) → g.D.Dump.bytes l.fn.dump ≡ Some all → row_count l.geometry ≡ length all / raw_size l.geometry.data_bytes l.geometry.spare_bytes
      → l.sample ≡ sample_below l.geometry.data_bytes l.geometry.spare_bytes (row_count l.geometry) (decoded_bytes l.geometry.data_bytes l.geometry.spare_bytes all) l.place;
}
