use Rattle.std.proofs.Common.{◌∙◌, sym}
use Rattle.disk_server.proofs.ReopenedLemmas.{reopens}
use Rattle.disk_server.proofs.reopened.ReopenedDevice.reopen.Goals as goal

pub returns-then-is_full-clause-opened : goal.returns-then-is_full-clause-opened
returns-then-is_full-clause-opened g c = λ done.
    rw (← c.self.view_is) (reopens g.S.Store.held g.S.Store.honest g.S.TellsFull.full g.S.Store.failed _ c.args.device c.open.new.self c.store_under-store.result c.store_under-store.ensures
    (sym c.is_full.ensures ∙ c.if-is_full.true) c.next_sequence-self-inside.result c.next_sequence-self-inside.ensures (c.open.ensures.opened done))
