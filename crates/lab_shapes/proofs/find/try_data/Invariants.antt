use Rattle.std.proofs.Common.{◌≡◌, List, ℕ, length, Some}
use Rattle.lab_shapes.specs.Better.{Improves, InData, KeepsPossible}
use Rattle.lab_shapes.specs.Rooms.{HasRoomForLargestPage}
use Rattle.lab_shapes.proofs.BetterLemmas.{Below}
use Rattle.lab_shapes.proofs.FindLemmas.{spare_of}
use Rattle.lab_shapes.proofs.find.try_data.Given as goal

abbrev pub invariant-loop-spare_bytes : goal.invariant-loop-spare_bytes
invariant-loop-spare_bytes g l = record {
  room : HasRoomForLargestPage l.room;
  same : g.D.Dump.bytes l.dump ≡ g.D.Dump.bytes l.fn.dump;
  possible : KeepsPossible l.fn.room.best l.room.best;
  better : (all : List ℕ) → g.D.Dump.bytes l.fn.dump ≡ Some all → l.size ≡ length all → Improves (Below (InData all l.way l.data_bytes) spare_of l.spare_bytes) l.fn.room.best l.room.best;
}
