use Rattle.std.proofs.Common.{ap, inr, sym, ◌∙◌}
use Rattle.disk_server.proofs.ReopenedLemmas.{idles, settled_terms}
use Rattle.disk_server.proofs.reopened.ReopenedDeviceSectors.rest.Goals as goal

pub returns-clause-idles : goal.returns-clause-idles
returns-clause-idles g c =
    let was = sym c.in-Some.ensures.value in
    rw (← c.self.view_is) (idles g.S.Store.held g.S.Store.honest g.S.Store.failed g.S.TellsFull.full _ c.settle.new.self c.in-Some.device c.rest-answer.new.self was
    (sym c.rest-answer.ensures.idles.sized ∙ c.settle.ensures.long) c.rest-answer.result c.settle.result c.rest-answer.ensures.idles c.settle.ensures.settles)

pub returns-clause-rests : goal.returns-clause-rests
returns-clause-rests g c =
    let was = sym c.in-Some.ensures.value in
    rw (← c.self.view_is) (inr (record { device = c.in-Some.device; was = was; left = c.rest-answer.new.self; answer = c.rest-answer.result; asked = c.rest-answer.ensures.rests; settles = c.settle.ensures.settles }))

pub returns-clause-size : goal.returns-clause-size
returns-clause-size g c = rw (← c.self.view_is) (ap (λ t. t.size) (settled_terms g.S.Store.held g.S.Store.honest g.S.TellsFull.full g.S.Store.failed _ _ _ _ _ c.rest-answer.result c.settle.result c.settle.new.self c.settle.ensures.settles))

pub returns-clause-count : goal.returns-clause-count
returns-clause-count g c = rw (← c.self.view_is) (ap (λ t. t.count) (settled_terms g.S.Store.held g.S.Store.honest g.S.TellsFull.full g.S.Store.failed _ _ _ _ _ c.rest-answer.result c.settle.result c.settle.new.self c.settle.ensures.settles))
