use Rattle.std.proofs.Common.{length, ◌-◌, ◌≡◌, ◌≤◌, [], take, Ok}
use Rattle.nbd_stream.specs.Disk.{PerformsTask}
use Rattle.nbd_stream.specs.Through.{Through}
use Rattle.nbd_stream.specs.declared.task.Task.TheVariants.{Read}
use Rattle.disk_server.proofs.ranges.read_range.Given as goal

abbrev pub invariant-loop-done : goal.invariant-loop-done
invariant-loop-done g l = (l.done ≤ length l.fn.out) × (length l.out ≡ length l.fn.out) × (length l.buffer ≡ length l.fn.buffer) × (g.S.Sectors.size l.sectors ≡ g.S.Sectors.size l.fn.sectors)
    × PerformsTask g.S.Sectors.contents g.S.Sectors.honest g.S.Sectors.calm (Read l.offset l.done) [] l.fn.sectors (Ok (take l.done l.out)) l.sectors
    × Through g.S.Sectors.reads l.fn.sectors l.sectors

abbrev pub decreases-loop-done : goal.decreases-loop-done
decreases-loop-done g l = length l.initial.out - l.done
