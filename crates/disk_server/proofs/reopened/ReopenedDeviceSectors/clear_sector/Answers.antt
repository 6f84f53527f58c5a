use Rattle.std.proofs.Common.{◌*◌, [], false, inl, inr, ap, refl, subst, sym, rules, ◌∙◌, ◌<◌, Err}
use Rattle.nbd_stream.specs.declared.fault.DiskFault.TheVariants as fault
use Rattle.nbd_stream.specs.declared.task.Task.TheVariants.{Trim}
use Rattle.nbd_stream.specs.Disk.{PerformsTask, answer_from}
use Rattle.disk_server.specs.Asked.{SparesZeros}
use Rattle.disk_server.specs.Reopened.{reads_of}
use Rattle.disk_server.proofs.ChangeLemmas.{clears_in}
use Rattle.disk_server.proofs.ReopenedLemmas.{at, going, performs, settled_terms, spared}
use Rattle.disk_server.proofs.reopened.ReopenedDeviceSectors.clear_sector.Goals as goal

pub returns-clause-performs : goal.returns-clause-performs
returns-clause-performs g c =
    let was = sym c.in-Some.ensures.value in
    let sized = c.self.invariant.sized _ was in
    let asked = subst (λ k. PerformsTask (at g.S.Store.held g.S.Store.honest g.S.Store.failed) (going g.S.Store.held g.S.Store.honest g.S.Store.failed) (λ x. false) (Trim (c.args.sector * k) k false) [] c.in-Some.device (answer_from c.clear_sector-answer.result []) c.clear_sector-answer.new.self)
    sized c.clear_sector-answer.ensures.performs in
    rw (← c.self.view_is) (performs g.S.Store.held g.S.Store.honest g.S.Store.failed g.S.TellsFull.full _ c.settle.new.self c.in-Some.device c.clear_sector-answer.new.self was
    (sym c.clear_sector-answer.ensures.performs.sized ∙ c.settle.ensures.long) fault.NoSpace _ [] c.clear_sector-answer.result c.settle.result (inr (inr refl)) (inl refl) asked c.settle.ensures.settles)

pub returns-clause-asked : goal.returns-clause-asked
returns-clause-asked g c =
    let was = sym c.in-Some.ensures.value in
    rw (← c.self.view_is) (inr (record { device = c.in-Some.device; was = was; left = c.clear_sector-answer.new.self; answer = c.clear_sector-answer.result; asked = c.clear_sector-answer.ensures.asked; settles = c.settle.ensures.settles }))

pub returns-clause-spares : goal.returns-clause-spares
returns-clause-spares g c =
    let was = sym c.in-Some.ensures.value in
    let sized = c.self.invariant.sized _ was in
    let spares = subst (λ k. SparesZeros (at g.S.Store.held g.S.Store.honest g.S.Store.failed) (going g.S.Store.held g.S.Store.honest g.S.Store.failed) (reads_of g.S.Store.held g.S.Store.honest g.S.Store.failed)
    (c.args.sector * k) k c.in-Some.device c.clear_sector-answer.new.self) sized c.clear_sector-answer.ensures.spares in
    rw (← c.self.view_is) (spared g.S.Store.held g.S.Store.honest g.S.Store.failed g.S.TellsFull.full _ c.settle.new.self c.in-Some.device c.clear_sector-answer.new.self was
    (sym c.clear_sector-answer.ensures.performs.sized ∙ c.settle.ensures.long) fault.NoSpace _ _ c.clear_sector-answer.result c.settle.result spares c.settle.ensures.settles)

pub returns-clause-size : goal.returns-clause-size
returns-clause-size g c = rw (← c.self.view_is) (ap (λ t. t.size) (settled_terms g.S.Store.held g.S.Store.honest g.S.TellsFull.full g.S.Store.failed _ _ _ _ _ c.clear_sector-answer.result c.settle.result c.settle.new.self c.settle.ensures.settles))

pub returns-clause-count : goal.returns-clause-count
returns-clause-count g c = rw (← c.self.view_is) (ap (λ t. t.count) (settled_terms g.S.Store.held g.S.Store.honest g.S.TellsFull.full g.S.Store.failed _ _ _ _ _ c.clear_sector-answer.result c.settle.result c.settle.new.self c.settle.ensures.settles))

pub returns-clause-changes : goal.returns-clause-changes
returns-clause-changes g c =
    clears_in g.S.Store.held g.S.Store.honest g.S.TellsFull.full g.S.Store.failed c.args.self.now c.settle.new.self c.args.sector c.settle.result (returns-clause-asked g c)

pub returns-in_default-clause-asked : goal.returns-in_default-clause-asked
returns-in_default-clause-asked g c = search rules

pub returns-in_default-clause-changes : goal.returns-in_default-clause-changes
returns-in_default-clause-changes g c =
    clears_in g.S.Store.held g.S.Store.honest g.S.TellsFull.full g.S.Store.failed c.args.self.now _ c.args.sector (Err fault.Failed) (returns-in_default-clause-asked g c)

pub clear_sector-answer-requires-clause-within : goal.clear_sector-answer-requires-clause-within
clear_sector-answer-requires-clause-within g c =
    let within = rw (← c.self.view_is) at c.requires.within in
    subst (λ k. c.args.sector < k) (sym (c.self.invariant.counted _ (sym c.in-Some.ensures.value))) within

pub clear_sector-answer-requires-clause-whole : goal.clear_sector-answer-requires-clause-whole
clear_sector-answer-requires-clause-whole g c = (rw (← c.self.view_is) at c.requires.whole) ∙ sym (c.self.invariant.sized _ (sym c.in-Some.ensures.value))

pub settle-requires-clause-counted : goal.settle-requires-clause-counted
settle-requires-clause-counted g c = c.clear_sector-answer.ensures.count ∙ c.self.invariant.counted _ (sym c.in-Some.ensures.value)
