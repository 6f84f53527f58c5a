use Rattle.std.proofs.Common.{[]}
use Rattle.nbd_stream.specs.declared.task.Task.TheVariants as task
use Rattle.nbd_stream.specs.Disk.{answer_from}
use Rattle.disk_server.proofs.GuardedLemmas.{call_shown, flush_steps}
use Rattle.disk_server.proofs.guarded.GuardedSectorsSectors.flush.Goals as goal

pub returns-clause-performs : goal.returns-clause-performs
returns-clause-performs g c =
    let p = c.flush.ensures.performs in
    call_shown g.S.Sectors.contents g.S.Sectors.size g.S.Sectors.honest task.Flush [] c.args.self.now (answer_from c.flush.result [])
    (record { sectors = c.flush.new.self; keeper = c.args.self.now.keeper; lost = c.args.self.now.lost; failed = c.args.self.now.failed })
    c.flush.ensures.size p.sized p.kept p.back p.fault p.given
    (λ h. flush_steps (g.S.Sectors.size c.args.self.now.sectors) c.args.self.now.lost.items (g.S.Sectors.contents c.args.self.now.sectors) (g.S.Sectors.contents c.flush.new.self) (answer_from c.flush.result []) p.sized (p.steps h))
