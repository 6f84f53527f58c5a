use Rattle.std.proofs.Common.{◌≡◌, ◌-◌, ◌≤◌, false, [], replicate, Ok}
use Rattle.nbd_stream.specs.Disk.{PerformsTask}
use Rattle.nbd_stream.specs.declared.task.Task.TheVariants.{Write}
use Rattle.nbd_stream.specs.Through.{Through}
use Rattle.disk_server.specs.Synced.{ClearsDonePart, KeepsCount, NoneFailed}
use Rattle.disk_server.proofs.SyncLemmas.{Counted}
use Rattle.disk_server.proofs.synced.SyncedDisk.clear_parts.Given as goal

abbrev pub invariant-loop-done : goal.invariant-loop-done
invariant-loop-done g l = (l.done ≤ l.count) × KeepsCount g.Y.Syncs.synced l.fn.self l.self × Counted g.Y.Syncs.synced l.offset l.done l.fn.self l.self
    × PerformsTask (λ s. g.D.Disk.contents s.disk) (λ s. g.D.Disk.honest s.disk) (λ _. false) (Write l.offset l.done false) (replicate l.done 0) l.fn.self (Ok []) l.self
    × NoneFailed g.Y.Syncs.failed l.fn.self l.self
    × Through (ClearsDonePart g.D.Disk.does g.Y.Syncs.synced g.Y.Syncs.failed g.Y.Syncs.marked g.D.Sequenced.next l.offset l.count) l.fn.self l.self
    × ((g.Y.Syncs.marked l.self.syncs).flushed ≡ (g.Y.Syncs.marked l.fn.self.syncs).flushed)

abbrev pub decreases-loop-done : goal.decreases-loop-done
decreases-loop-done g l = l.count - l.done
