use Rattle.std.proofs.Common.{length, ◌-◌, ◌≡◌, ◌≤◌, false, [], take, Ok}
use Rattle.nbd_stream.specs.Disk.{PerformsTask}
use Rattle.nbd_stream.specs.declared.task.Task.TheVariants.{Write}
use Rattle.disk_server.specs.Asked.{AsksPiece, StepsTo}
use Rattle.disk_server.proofs.ranges.write_pieces.Given as goal

abbrev pub invariant-loop-done : goal.invariant-loop-done
invariant-loop-done g l = (l.done ≤ length l.bytes) × (length l.buffer ≡ length l.fn.buffer) × (g.S.Sectors.size l.sectors ≡ g.S.Sectors.size l.fn.sectors)
    × PerformsTask g.S.Sectors.contents g.S.Sectors.honest g.S.Sectors.calm (Write l.offset l.done false) (take l.done l.bytes) l.fn.sectors (Ok []) l.sectors
    × StepsTo (AsksPiece g.S.Sectors.reads g.S.Sectors.changes) l.fn.sectors (Ok tt) l.sectors

abbrev pub decreases-loop-done : goal.decreases-loop-done
decreases-loop-done g l = length l.bytes - l.done
