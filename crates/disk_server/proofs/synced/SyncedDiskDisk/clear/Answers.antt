use Rattle.std.proofs.Common.{◌∙◌, Ok, Err, [], false, inl, refl, subst, sym}
use Rattle.nbd_stream.specs.declared.task.Task.TheVariants as task
use Rattle.nbd_stream.specs.Disk.{PerformsTask, answer_from, error_for}
use Rattle.disk_server.proofs.SyncLemmas.{unflushed}
use Rattle.disk_server.proofs.SyncedLemmas.{and_synced, as_disk, ends_all, goes, joined_call, lasting_trim, marked_last, notes_then, refused, told_notes}
use Rattle.disk_server.proofs.synced.SyncedDiskDisk.clear.Goals as goal

pub returns-then-self-clause-does : goal.returns-then-self-clause-does
returns-then-self-clause-does g c = refused g.D.Disk.does g.Y.Syncs.synced g.Y.Syncs.failed g.Y.Syncs.marked g.D.Sequenced.next c.args.self.now (task.Trim c.args.offset c.args.count c.args.durable) c.if-self.true

pub returns-in-Ok-clause-performs : goal.returns-in-Ok-clause-performs
returns-in-Ok-clause-performs g c =
    joined_call g.D.Disk.contents g.D.Disk.honest (λ _. false) (task.Trim c.args.offset c.args.count c.args.durable) [] c.args.self.now c.settle.new.self (answer_from c.settle.result [])
    (subst (λ d. PerformsTask g.D.Disk.contents g.D.Disk.honest (λ _. false) (task.Trim c.args.offset c.args.count c.args.durable) [] c.args.self.now.disk (answer_from c.settle.result []) d) (sym c.settle.ensures.disk)
    (and_synced g.D.Disk.contents g.D.Disk.honest (λ _. false) (task.Trim c.args.offset c.args.count c.args.durable) [] c.args.self.now.disk c.clear_parts.new.self.disk c.settle.result c.settle.ensures.fault (inl refl) refl
    (lasting_trim g.D.Disk.contents g.D.Disk.honest (λ _. false) g.met.D.LastingDisk.lasts c.args.offset c.args.count c.args.durable c.args.self.now.disk c.clear_parts.new.self.disk (Ok [])
    (as_disk g.D.Disk.contents g.D.Disk.honest (task.Trim c.args.offset c.args.count false) [] c.args.self.now c.clear_parts.new.self (Ok []) c.in-Ok.ensures.performs))))

pub returns-in-Err-clause-performs : goal.returns-in-Err-clause-performs
returns-in-Err-clause-performs g c =
    joined_call g.D.Disk.contents g.D.Disk.honest (λ _. false) (task.Trim c.args.offset c.args.count c.args.durable) [] c.args.self.now c.clear_parts.new.self (Err (error_for c.in-Err.fault))
    (lasting_trim g.D.Disk.contents g.D.Disk.honest (λ _. false) g.met.D.LastingDisk.lasts c.args.offset c.args.count c.args.durable c.args.self.now.disk c.clear_parts.new.self.disk (Err (error_for c.in-Err.fault))
    (as_disk g.D.Disk.contents g.D.Disk.honest (task.Trim c.args.offset c.args.count false) [] c.args.self.now c.clear_parts.new.self (Err (error_for c.in-Err.fault)) c.in-Err.ensures.performs))

pub returns-in-Ok-clause-does : goal.returns-in-Ok-clause-does
returns-in-Ok-clause-does g c =
    goes g.D.Disk.does g.Y.Syncs.synced g.Y.Syncs.failed g.Y.Syncs.marked g.D.Sequenced.next c.args.self.now (task.Trim c.args.offset c.args.count c.args.durable) c.settle.new.self c.settle.result c.if-self.false
    (record {
      mid = c.clear_parts.new.self;
      answer = Ok tt;
      parts = c.in-Ok.ensures.parts;
      done = record {
        same = c.settle.ensures.disk;
        told = c.settle.ensures.told;
        behind = record { synced_if_due = c.settle.ensures.synced; unsynced = c.settle.ensures.unsynced; marks = c.settle.ensures.marks };
      };
      not_done = tt;
      ends = ends_all g.Y.Syncs.synced g.Y.Syncs.marked g.D.Sequenced.next c.args.durable c.args.offset c.args.count c.args.self.now c.clear_parts.new.self c.settle.new.self c.in-Ok.ensures.syncs c.in-Ok.ensures.counts
          c.settle.result c.settle.ensures.synced;
      marked_last = marked_last g.Y.Syncs.marked g.D.Sequenced.next c.args.durable c.clear_parts.new.self c.settle.new.self c.settle.result c.settle.ensures.marks;
      unflushed = unflushed g.Y.Syncs.marked g.D.Sequenced.next c.args.durable c.clear_parts.new.self c.settle.new.self c.settle.result c.settle.ensures.marks ∙ c.in-Ok.ensures.unflushed;
    })
    (notes_then g.Y.Syncs.failed c.args.self.now c.clear_parts.new.self c.settle.new.self c.settle.result c.in-Ok.ensures.notes
    (told_notes g.Y.Syncs.failed c.clear_parts.new.self c.settle.new.self (Ok tt) c.settle.result c.settle.ensures.told))

pub returns-in-Err-clause-does : goal.returns-in-Err-clause-does
returns-in-Err-clause-does g c =
    goes g.D.Disk.does g.Y.Syncs.synced g.Y.Syncs.failed g.Y.Syncs.marked g.D.Sequenced.next c.args.self.now (task.Trim c.args.offset c.args.count c.args.durable) c.clear_parts.new.self (Err c.in-Err.fault) c.if-self.false
    (record { mid = c.clear_parts.new.self; answer = Err c.in-Err.fault; parts = c.in-Err.ensures.parts; done = tt; not_done = (refl, refl); ends = tt; marked_last = tt; unflushed = c.in-Err.ensures.unflushed }) c.in-Err.ensures.notes
