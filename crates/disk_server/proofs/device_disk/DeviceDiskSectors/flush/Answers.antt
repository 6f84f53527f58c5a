use Rattle.std.proofs.Common.{false, [], subst, sym}
use Rattle.nbd_stream.specs.Disk.{PerformsTask, answer_from}
use Rattle.nbd_stream.specs.declared.task.Task.TheVariants as task
use Rattle.disk_server.specs.Disk.{contents_of, holds, flush_answer}
use Rattle.disk_server.proofs.Calls.{flush_disk, flush_performs}
use Rattle.disk_server.proofs.device_disk.DeviceDiskSectors.flush.Goals as goal

pub invariant_of-self : goal.invariant_of-self
invariant_of-self g c = flush_disk g.N.PageSource.view
    c.self.inside.device c.flush.new.self c.flush.result c.self.invariant c.flush.ensures.upkeeps c.flush.ensures.device

pub returns-clause-performs : goal.returns-clause-performs
returns-clause-performs g c =
    subst (λ r. PerformsTask (contents_of g.N.PageSource.view) (holds g.N.PageSource.view.honest) (λ d. false) task.Flush [] c.args.self.now
    (answer_from r []) c.flush.new.self) (sym c.flush_answer.ensures)
    (subst (λ d. PerformsTask (contents_of g.N.PageSource.view) (holds g.N.PageSource.view.honest) (λ d. false) task.Flush [] d
    (answer_from (flush_answer c.flush.result) []) c.flush.new.self) c.self.view_is
    (flush_performs g.N.PageSource.view
    c.self.inside.device c.flush.new.self c.flush.result c.self.invariant c.flush.ensures.upkeeps c.flush.ensures.geometry c.flush.ensures.device))

pub returns-clause-flushes : goal.returns-clause-flushes
returns-clause-flushes g c = rw (← c.self.view_is) (record { answer = c.flush.result; told = c.flush_answer.ensures; upkeeps = c.flush.ensures.upkeeps; disk = invariant_of-self g c })
