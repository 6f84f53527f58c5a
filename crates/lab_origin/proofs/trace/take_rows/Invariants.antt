use Rattle.std.proofs.Common.{◌≡◌, ℕ, List, Some, length, map}
use Rattle.page_layout.specs.Geometry.{page_bytes}
use Rattle.page_layout.specs.Array.{marks}
use Rattle.lab_origin.specs.Origin.{image_of, is_in_a_reading}
use Rattle.lab_dump.specs.Scan.{Tell}
use Rattle.lab_origin.specs.Tracing.{HasSectorPlaces, ShowsOrigins}
use Rattle.lab_origin.proofs.trace.take_rows.Given as goal

abbrev pub invariant-loop-row : goal.invariant-loop-row
invariant-loop-row g l = record {
  page_whole : length l.page ≡ page_bytes l.geometry;
  other_whole : length l.other ≡ page_bytes l.geometry;
  sized : HasSectorPlaces l.geometry l.tracing.latest.items l.tracing.marks.items;
  until : l.tracing.until ≡ l.initial.tracing.until;
  dump_same : g.D.Dump.bytes l.dump ≡ g.D.Dump.bytes l.initial.dump;
  same : map g.D.Dump.bytes l.readings ≡ map g.D.Dump.bytes l.initial.readings;
  shows : (all : List ℕ) (files : List (List ℕ)) → g.D.Dump.bytes l.initial.dump ≡ Some all → Tell (map g.D.Dump.bytes l.initial.readings) files
      → ShowsOrigins l.geometry (marks (image_of l.geometry l.initial.tracing.until all)) (is_in_a_reading l.geometry all files) l.row l.tracing.latest.items l.tracing.marks.items;
}
