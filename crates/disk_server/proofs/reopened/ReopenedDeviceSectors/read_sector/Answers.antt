use Rattle.std.proofs.Common.{◌*◌, [], false, inr, refl, subst, sym}
use Rattle.nbd_stream.specs.declared.task.Task.TheVariants.{Read}
use Rattle.nbd_stream.specs.Disk.{PerformsTask, answer_from}
use Rattle.disk_server.specs.Reopened.{AreReopenedParts}
use Rattle.disk_server.proofs.ReopenedLemmas.{at, given_of, going, goes_on, parts_on}
use Rattle.disk_server.proofs.reopened.ReopenedDeviceSectors.read_sector.Goals as goal

pub invariant_of-self-2 : goal.invariant_of-self-2
invariant_of-self-2 g c =
    let was = sym c.in-Some.ensures.value in
    subst (λ device. AreReopenedParts c.self.inside.size c.self.inside.count c.self.inside.capacity device) (sym c.replace.ensures.after)
    (parts_on _ _ _ _ c.in-Some.device c.read_sector-answer.new.self was c.self.invariant c.read_sector-answer.ensures.size c.read_sector-answer.ensures.count)

pub returns-clause-performs : goal.returns-clause-performs
returns-clause-performs g c =
    let was = sym c.in-Some.ensures.value in
    let asked = subst
    (λ k. PerformsTask (at g.S.Store.held g.S.Store.honest g.S.Store.failed) (going g.S.Store.held g.S.Store.honest g.S.Store.failed) (λ x. false) (Read (c.args.sector * k) k) []
    c.in-Some.device (answer_from c.read_sector-answer.result c.read_sector-answer.new.buffer) c.read_sector-answer.new.self)
    (c.self.invariant.sized _ was) c.read_sector-answer.ensures.performs in
    rw (← c.self.view_is) (goes_on g.S.Store.held g.S.Store.honest g.S.Store.failed _ _ c.in-Some.device c.read_sector-answer.new.self was (record { device_is = c.replace.ensures.after; terms_are = refl; reopened_is = refl; next_is = refl }) _ [] _ asked)

pub returns-clause-reads : goal.returns-clause-reads
returns-clause-reads g c =
    let was = sym c.in-Some.ensures.value in
    rw (← c.self.view_is) (inr (record { device = c.in-Some.device; was = was; left = c.read_sector-answer.new.self; asked = c.read_sector-answer.ensures.reads; there = record { device_is = c.replace.ensures.after; terms_are = refl; reopened_is = refl; next_is = refl } }))

pub returns-clause-given : goal.returns-clause-given
returns-clause-given g c =
    let was = sym c.in-Some.ensures.value in
    let asked = subst
    (λ k. PerformsTask (at g.S.Store.held g.S.Store.honest g.S.Store.failed) (going g.S.Store.held g.S.Store.honest g.S.Store.failed) (λ x. false) (Read (c.args.sector * k) k) []
    c.in-Some.device (answer_from c.read_sector-answer.result c.read_sector-answer.new.buffer) c.read_sector-answer.new.self)
    (c.self.invariant.sized _ was) c.read_sector-answer.ensures.performs in
    rw (← c.self.view_is) (given_of g.S.Store.held g.S.Store.honest g.S.Store.failed c.args.sector _ _ _ c.in-Some.device c.read_sector-answer.new.self c.read_sector-answer.result c.read_sector-answer.new.buffer was c.replace.ensures.after asked c.read_sector-answer.ensures.answers)
