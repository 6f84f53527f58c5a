use Rattle.std.proofs.Common.{[], inr, refl, sym, ◌∙◌}
use Rattle.nbd_stream.specs.declared.fault.DiskFault.TheVariants as fault
use Rattle.nbd_stream.specs.declared.task.Task.TheVariants.{Flush}
use Rattle.disk_server.proofs.ReopenedLemmas.{performs}
use Rattle.disk_server.proofs.reopened.ReopenedDeviceSectors.flush.Goals as goal

pub returns-clause-performs : goal.returns-clause-performs
returns-clause-performs g c =
    let was = sym c.in-Some.ensures.value in
    rw (← c.self.view_is) (performs g.S.Store.held g.S.Store.honest g.S.Store.failed g.S.TellsFull.full _ c.settle.new.self c.in-Some.device c.flush-answer.new.self was
    (sym c.flush-answer.ensures.performs.sized ∙ c.settle.ensures.long) fault.Failed Flush [] c.flush-answer.result c.settle.result refl refl c.flush-answer.ensures.performs c.settle.ensures.settles)

pub returns-clause-flushes : goal.returns-clause-flushes
returns-clause-flushes g c =
    let was = sym c.in-Some.ensures.value in
    rw (← c.self.view_is) (inr (record { device = c.in-Some.device; was = was; left = c.flush-answer.new.self; answer = c.flush-answer.result; asked = c.flush-answer.ensures.flushes; settles = c.settle.ensures.settles }))
