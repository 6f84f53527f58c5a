use Rattle.std.proofs.Common.{◌*◌, [], false, inl, inr, refl, subst, sym, rules, ◌∙◌, Err, ap}
use Rattle.promises.specs.Step as step
use Rattle.nbd_stream.specs.declared.fault.DiskFault.TheVariants as fault
use Rattle.nbd_stream.specs.declared.task.Task.TheVariants.{Trim}
use Rattle.nbd_stream.specs.Disk.{PerformsTask, answer_from}
use Rattle.disk_server.proofs.ChangeLemmas.{sets_in}
use Rattle.disk_server.proofs.ReopenedLemmas.{at, going, performs, settled_terms}
use Rattle.disk_server.proofs.reopened.ReopenedDeviceSectors.trim_sector.Goals as goal

pub returns-clause-performs : goal.returns-clause-performs
returns-clause-performs g c =
    let was = sym c.in-Some.ensures.value in
    let sized = c.self.invariant.sized _ was in
    let asked = subst (λ k. PerformsTask (at g.S.Store.held g.S.Store.honest g.S.Store.failed) (going g.S.Store.held g.S.Store.honest g.S.Store.failed) (λ x. false) (Trim (c.args.sector * k) k false) [] c.in-Some.device (answer_from c.trim_sector-answer.result []) c.trim_sector-answer.new.self)
    sized c.trim_sector-answer.ensures.performs in
    rw (← c.self.view_is) (performs g.S.Store.held g.S.Store.honest g.S.Store.failed g.S.TellsFull.full _ c.settle.new.self c.in-Some.device c.trim_sector-answer.new.self was
    (sym c.trim_sector-answer.ensures.performs.sized ∙ c.settle.ensures.long) fault.NoSpace _ [] c.trim_sector-answer.result c.settle.result (inr (inr refl)) (inl refl) asked c.settle.ensures.settles)

pub returns-clause-asked : goal.returns-clause-asked
returns-clause-asked g c =
    let was = sym c.in-Some.ensures.value in
    rw (← c.self.view_is) (inr (record { device = c.in-Some.device; was = was; left = c.trim_sector-answer.new.self; answer = c.trim_sector-answer.result; asked = c.trim_sector-answer.ensures.asked; settles = c.settle.ensures.settles }))

pub returns-clause-changes : goal.returns-clause-changes
returns-clause-changes g c =
    sets_in g.S.Store.held g.S.Store.honest g.S.TellsFull.full g.S.Store.failed c.args.self.now c.settle.new.self c.args.sector c.settle.result (step.Trim c.args.sector) (returns-clause-asked g c)

pub returns-in_default-clause-asked : goal.returns-in_default-clause-asked
returns-in_default-clause-asked g c = search rules

pub returns-in_default-clause-changes : goal.returns-in_default-clause-changes
returns-in_default-clause-changes g c =
    sets_in g.S.Store.held g.S.Store.honest g.S.TellsFull.full g.S.Store.failed c.args.self.now _ c.args.sector (Err fault.Failed) (step.Trim c.args.sector) (returns-in_default-clause-asked g c)

pub settle-requires-clause-sized : goal.settle-requires-clause-sized
settle-requires-clause-sized g c = c.trim_sector-answer.ensures.size ∙ c.self.invariant.sized _ (sym c.in-Some.ensures.value)

pub settle-requires-clause-counted : goal.settle-requires-clause-counted
settle-requires-clause-counted g c = c.trim_sector-answer.ensures.count ∙ c.self.invariant.counted _ (sym c.in-Some.ensures.value)

pub returns-clause-size : goal.returns-clause-size
returns-clause-size g c = rw (← c.self.view_is) (ap (λ t. t.size) (settled_terms g.S.Store.held g.S.Store.honest g.S.TellsFull.full g.S.Store.failed _ _ _ _ _ c.trim_sector-answer.result c.settle.result c.settle.new.self c.settle.ensures.settles))

pub returns-clause-count : goal.returns-clause-count
returns-clause-count g c = rw (← c.self.view_is) (ap (λ t. t.count) (settled_terms g.S.Store.held g.S.Store.honest g.S.TellsFull.full g.S.Store.failed _ _ _ _ _ c.trim_sector-answer.result c.settle.result c.settle.new.self c.settle.ensures.settles))

pub returns-clause-sets : goal.returns-clause-sets
returns-clause-sets g c = inr (returns-clause-asked g c)

pub returns-in_default-clause-sets : goal.returns-in_default-clause-sets
returns-in_default-clause-sets g c = inr (returns-in_default-clause-asked g c)
