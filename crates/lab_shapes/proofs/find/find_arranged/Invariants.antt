use Rattle.std.proofs.Common.{◌≡◌, List, ℕ, length, Some, IfSome}
use Rattle.lab_shapes.specs.Arranged.{IsPossibleAs}
use Rattle.lab_shapes.specs.Better.{Improves}
use Rattle.lab_shapes.specs.Rooms.{HasRoomForLargestPage}
use Rattle.lab_shapes.proofs.FindLemmas.{Numbered}
use Rattle.lab_shapes.proofs.find.find_arranged.Given as goal

abbrev pub invariant-loop-number : goal.invariant-loop-number
invariant-loop-number g l = record {
  room : HasRoomForLargestPage l.room;
  same : g.D.Dump.bytes l.dump ≡ g.D.Dump.bytes l.fn.dump;
  possible : IfSome l.room.best IsPossibleAs;
  better : (all : List ℕ) → g.D.Dump.bytes l.fn.dump ≡ Some all → l.size ≡ length all → Improves (Numbered all l.number) l.fn.room.best l.room.best;
}
