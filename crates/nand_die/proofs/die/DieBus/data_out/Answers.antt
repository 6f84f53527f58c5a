use Rattle.std.proofs.Common.{length, ◌≡◌, ◌∙◌, ap, refl, subst, sym, true}
use Rattle.onfi_cycles.specs.Cycles.{Cycle, DataOut}
use Rattle.nand_die.specs.contracts.die.Die.{the_view}
use Rattle.nand_die.specs.DieValue.{DieValue, die_of}
use Rattle.nand_die.proofs.CallLemmas.{Said, does_quiet, fails, Gives, gives_all, gives_none}
use Rattle.nand_die.proofs.die.DieBus.data_out.Goals as goal

pub returns-then-self : goal.returns-then-self
returns-then-self c =
    let d : DieValue = c.args.self.now in
    let now : d.stopped ≡ true = sym (ap (λ (v : DieValue). v.stopped) c.self.view_is) ∙ c.if-self.true in
    let h = fails d c.fail.new.self (DataOut (length c.args.bytes.now)) c.fail.result c.args.bytes.now now (record { gives = tt; long = refl }) c.fail.ensures.new c.fail.ensures.device c.fail.ensures.rises in
    let b = gives_none d (length c.args.bytes.now) c.fail.result c.args.bytes.now c.args.bytes.now c.fail.ensures.device in
    record { kept = b.kept; out = b.taken; called = h.called; cycle = λ _. h.cycle_is; recorded = h.recorded; geometry = λ _. h.geometry; whole = h.whole; honest = refl; calm = h.calm; failed = h.failed; rose = h.rose; settled = h.settled; uncounted = h.uncounted }

pub returns : goal.returns
returns c =
    let d : DieValue = the_view c.self.inside in
    let cycle : Cycle = DataOut (length c.args.bytes.now) in
    let done = does_quiet d c.data_out.new.self cycle c.data_out.result c.data_out.new.bytes c.if-self.false refl refl (record { gives = c.data_out.ensures.out; long = c.data_out.auto.bytes }) c.data_out.ensures.acts c.data_out.ensures.quiet in
    let h = subst (λ (v : DieValue). Said v cycle c.data_out.result c.data_out.new.bytes (die_of c.data_out.new.self d.stop d.left d.stopped d.failures d.recorded d.room)) c.self.view_is done in
    let b = subst (λ (v : DieValue). Gives v (length c.args.bytes.now) c.data_out.result c.args.bytes.now c.data_out.new.bytes) c.self.view_is (gives_all d (length c.args.bytes.now) c.data_out.result c.args.bytes.now c.data_out.new.bytes c.data_out.ensures.kept c.data_out.ensures.out) in
    record { kept = b.kept; out = b.taken; called = h.called; cycle = λ _. h.cycle_is; recorded = h.recorded; geometry = λ _. h.geometry; whole = h.whole; honest = refl; calm = h.calm; failed = h.failed; rose = h.rose; settled = h.settled; uncounted = h.uncounted }
