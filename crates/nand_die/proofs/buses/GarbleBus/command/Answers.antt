use Rattle.std.proofs.Common.{[], refl}
use Rattle.std.proofs.lemmas.Bool.{false≢true}
use Rattle.onfi_cycles.specs.Cycles.{Command}
use Rattle.nand_die.proofs.RoundLemmas.{never_err, never_ok, passed_on}
use Rattle.nand_die.proofs.buses.GarbleBus.command.Goals as goal

pub returns : goal.returns
returns g c =
    let on = c.command.ensures in
    let h = passed_on g.B.Bus.failed (λ old new. g.B.Bus.called old (Command c.args.code) c.command.result [] new) c.command.result _ c.args.self.now c.command.new.self c.self.view_is on.called on.failed on.rose in
    record { called = h.called; cycle = λ whole. absurd (false≢true whole); recorded = never_ok _ _; geometry = λ whole. absurd (false≢true whole); whole = never_ok _ _; honest = refl; calm = refl; failed = h.rises; rose = h.rose; settled = never_ok _ _; uncounted = never_err _ _ }
