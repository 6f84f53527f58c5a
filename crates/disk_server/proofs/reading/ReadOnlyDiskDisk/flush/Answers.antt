use Rattle.std.proofs.Common.{Ok, [], false, refl, subst}
use Rattle.nbd_stream.specs.declared.task.Task.TheVariants as task
use Rattle.nbd_stream.specs.Disk.{PerformsTask}
use Rattle.nbd_stream.proofs.ThroughLemmas.{none}
use Rattle.disk_server.proofs.ReadingLemmas.{flushed}
use Rattle.disk_server.proofs.reading.ReadOnlyDiskDisk.flush.Goals as goal

pub returns-clause-performs : goal.returns-clause-performs
returns-clause-performs g c =
    subst (λ d. PerformsTask g.S.Sectors.contents g.S.Sectors.honest (λ x. false) task.Flush [] d (Ok []) d) c.self.view_is
    (flushed g.S.Sectors.contents g.S.Sectors.honest c.self.inside.disk c.self.invariant)

pub returns-clause-leaves : goal.returns-clause-leaves
returns-clause-leaves g c = none g.S.Sectors.reads c.args.self.now c.args.self.now refl
