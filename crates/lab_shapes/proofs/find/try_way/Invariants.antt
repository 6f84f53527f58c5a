use Rattle.std.proofs.Common.{◌≡◌, All, List, ℕ, length, take, Some}
use Rattle.page_layout.specs.Limits.{IsDataSize}
use Rattle.lab_dump.specs.Shape.{data_sizes}
use Rattle.lab_shapes.specs.Better.{Improves, InWay, KeepsPossible}
use Rattle.lab_shapes.specs.Rooms.{HasRoomForLargestPage}
use Rattle.lab_shapes.proofs.BetterLemmas.{Among}
use Rattle.lab_shapes.proofs.FindLemmas.{data_of}
use Rattle.lab_shapes.proofs.find.try_way.Given as goal

abbrev pub invariant-loop-data_bytes : goal.invariant-loop-data_bytes
invariant-loop-data_bytes g l = record {
  sizes : All IsDataSize l.data_bytes-items;
  items : l.data_bytes-items ≡ data_sizes;
  room : HasRoomForLargestPage l.room;
  same : g.D.Dump.bytes l.dump ≡ g.D.Dump.bytes l.fn.dump;
  possible : KeepsPossible l.fn.room.best l.room.best;
  better : (all : List ℕ) → g.D.Dump.bytes l.fn.dump ≡ Some all → l.size ≡ length all → Improves (Among (InWay all l.way) data_of (take l.data_bytes-index data_sizes)) l.fn.room.best l.room.best;
}
