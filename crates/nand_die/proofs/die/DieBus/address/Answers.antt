use Rattle.std.proofs.Common.{[], ◌≡◌, ◌∙◌, ap, refl, subst, sym, true}
use Rattle.onfi_cycles.specs.Cycles.{Cycle, Address}
use Rattle.nand_die.specs.contracts.die.Die.{the_view}
use Rattle.nand_die.specs.DieValue.{DieValue, die_of}
use Rattle.nand_die.proofs.CallLemmas.{Said, does_quiet, fails}
use Rattle.nand_die.proofs.die.DieBus.address.Goals as goal

pub returns-then-self : goal.returns-then-self
returns-then-self c =
    let d : DieValue = c.args.self.now in
    let now : d.stopped ≡ true = sym (ap (λ (v : DieValue). v.stopped) c.self.view_is) ∙ c.if-self.true in
    let h = fails d c.fail.new.self (Address c.args.byte) c.fail.result [] now refl c.fail.ensures.new c.fail.ensures.device c.fail.ensures.rises in
    record { called = h.called; cycle = λ _. h.cycle_is; recorded = h.recorded; geometry = λ _. h.geometry; whole = h.whole; honest = refl; calm = h.calm; failed = h.failed; rose = h.rose; settled = h.settled; uncounted = h.uncounted }

pub returns : goal.returns
returns c =
    let d : DieValue = the_view c.self.inside in
    let cycle : Cycle = Address c.args.byte in
    let done = does_quiet d c.address.new.self cycle c.address.result [] c.if-self.false refl refl refl c.address.ensures.acts c.address.ensures.quiet in
    let h = subst (λ (v : DieValue). Said v cycle c.address.result [] (die_of c.address.new.self d.stop d.left d.stopped d.failures d.recorded d.room)) c.self.view_is done in
    record { called = h.called; cycle = λ _. h.cycle_is; recorded = h.recorded; geometry = λ _. h.geometry; whole = h.whole; honest = refl; calm = h.calm; failed = h.failed; rose = h.rose; settled = h.settled; uncounted = h.uncounted }
