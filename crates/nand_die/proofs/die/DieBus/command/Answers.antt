use Rattle.std.proofs.Common.{[], ◌≡◌, ◌∙◌, ap, false, refl, subst, sym, true}
use Rattle.onfi_cycles.specs.Cycles.{Command}
use Rattle.nand_die.specs.Stopping.{IsStop}
use Rattle.nand_die.specs.DieValue.{DieValue}
use Rattle.nand_die.proofs.CallLemmas.{does_next, fails, stops_now}
use Rattle.nand_die.proofs.die.DieBus.command.Goals as goal

pub returns-then-self : goal.returns-then-self
returns-then-self c =
    let d : DieValue = c.args.self.now in
    let now : d.stopped ≡ true = sym (ap (λ (v : DieValue). v.stopped) c.self.view_is) ∙ c.if-self.true in
    let h = fails d c.fail.new.self (Command c.args.code) c.fail.result [] now refl c.fail.ensures.new c.fail.ensures.device c.fail.ensures.rises in
    record { called = h.called; cycle = λ _. h.cycle_is; recorded = h.recorded; geometry = λ _. h.geometry; whole = h.whole; honest = refl; calm = h.calm; failed = h.failed; rose = h.rose; settled = h.settled; uncounted = h.uncounted }

pub returns-then-comes : goal.returns-then-comes
returns-then-comes c =
    let d : DieValue = c.args.self.now in
    let runs : d.stopped ≡ false = sym (ap (λ (v : DieValue). v.stopped) c.self.view_is) ∙ c.if-self.false in
    let fits : IsStop d.state.flash.geometry d.stop = subst (λ (v : DieValue). IsStop v.state.flash.geometry v.stop) c.self.view_is c.self.invariant.0 in
    let f = c.fail-then-comes.ensures in
    let h = stops_now d c.comes.new.self c.strike.new.self c.fail-then-comes.new.self c.args.code c.fail-then-comes.result fits runs (sym c.if-comes.ensures.is)
    c.if-comes.ensures.new c.strike.ensures f.new f.whole f.device f.rises in
    record { called = h.called; cycle = λ _. h.cycle_is; recorded = h.recorded; geometry = λ _. h.geometry; whole = h.whole; honest = refl; calm = h.calm; failed = h.failed; rose = h.rose; settled = h.settled; uncounted = h.uncounted }

pub returns : goal.returns
returns c =
    let d : DieValue = c.args.self.now in
    let runs : d.stopped ≡ false = sym (ap (λ (v : DieValue). v.stopped) c.self.view_is) ∙ c.if-self.false in
    let h = does_next d c.comes.new.self c.run.new.self c.args.code _ c.run.result runs (sym c.if-comes.ensures.is) refl c.if-comes.ensures.new c.run.ensures.new c.run.ensures.acts in
    record { called = h.called; cycle = λ _. h.cycle_is; recorded = h.recorded; geometry = λ _. h.geometry; whole = h.whole; honest = refl; calm = h.calm; failed = h.failed; rose = h.rose; settled = h.settled; uncounted = h.uncounted }
