use Rattle.std.proofs.Common.{◌≡◌, All, List, ℕ, length, take, Some}
use Rattle.page_layout.specs.Limits.{IsPageCount}
use Rattle.lab_dump.specs.Shape.{page_counts}
use Rattle.lab_shapes.specs.Better.{Improves, InAreas, KeepsPossible}
use Rattle.lab_shapes.specs.Rooms.{HasRoomForLargestPage}
use Rattle.lab_shapes.proofs.BetterLemmas.{Among}
use Rattle.lab_shapes.proofs.FindLemmas.{pages_of}
use Rattle.lab_shapes.proofs.find.try_areas.Given as goal

abbrev pub invariant-loop-pages : goal.invariant-loop-pages
invariant-loop-pages g l = record {
  counts : All IsPageCount l.pages-items;
  items : l.pages-items ≡ page_counts;
  room : HasRoomForLargestPage l.room;
  same : g.D.Dump.bytes l.dump ≡ g.D.Dump.bytes l.fn.dump;
  possible : KeepsPossible l.fn.room.best l.room.best;
  better : (all : List ℕ) → g.D.Dump.bytes l.fn.dump ≡ Some all → l.size ≡ length all → Improves (Among (InAreas all l.way l.data_bytes l.spare_bytes) pages_of (take l.pages-index page_counts)) l.fn.room.best l.room.best;
}
