use Rattle.disk_server.proofs.SyncedLemmas.{close_law, fault_law, flush_law, over_law, synced_law, unflushed_law, write_law}
use Rattle.disk_server.proofs.laws.sync_laws.Goals as goal

pub returns : goal.returns
returns g c = record {
  unflushed = unflushed_law g.D.Disk.does g.Y.Syncs.synced g.Y.Syncs.failed g.Y.Syncs.marked g.D.Sequenced.next;
  synced = synced_law g.D.Disk.does g.Y.Syncs.synced g.Y.Syncs.failed g.Y.Syncs.marked g.D.Sequenced.next;
  closed = close_law g.D.Disk.does g.Y.Syncs.synced g.Y.Syncs.failed g.Y.Syncs.marked g.D.Sequenced.next g.D.Sequenced.takes;
  over = over_law g.D.Disk.does g.Y.Syncs.synced g.Y.Syncs.failed g.Y.Syncs.marked g.D.Sequenced.next;
  flush = flush_law g.D.Disk.does g.Y.Syncs.synced g.Y.Syncs.failed g.Y.Syncs.marked g.D.Sequenced.next;
  write = write_law g.D.Disk.does g.Y.Syncs.synced g.Y.Syncs.failed g.Y.Syncs.marked g.D.Sequenced.next;
  fault = fault_law g.D.Disk.does g.Y.Syncs.synced g.Y.Syncs.failed g.Y.Syncs.marked g.D.Sequenced.next;
}
