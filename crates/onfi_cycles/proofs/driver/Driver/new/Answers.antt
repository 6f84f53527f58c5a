use Rattle.std.proofs.Common.{◌∙◌, ap, arith, sym}
use Rattle.onfi_cycles.specs.Cycles.{DieState, NoOutput}
use Rattle.onfi_cycles.proofs.Resets.{reset_does, reset_fails, reset_noted, seen_is}
use Rattle.onfi_cycles.proofs.driver.Driver.new.Goals as goal

pub invariant_of-result : goal.invariant_of-result
invariant_of-result g c h =
    let was = sym c.command.ensures.honest ∙ h in
    (c.command.ensures.geometry was ∙ c.requires.geometry was, (NoOutput, ap (λ (d : DieState). d.phase) (reset_does _ _ (c.in-Ok.ensures.cycle was))), omega arith)

pub returns-in-Ok-clause-flash : goal.returns-in-Ok-clause-flash
returns-in-Ok-clause-flash g c h =
    let same = ap (λ (d : DieState). d.flash) (reset_does _ _ (c.in-Ok.ensures.cycle h)) in
    seen_is _ _ (c.command.ensures.geometry h ∙ c.requires.geometry h) ∙ same

pub returns-in-Err-clause-device : goal.returns-in-Err-clause-device
returns-in-Err-clause-device g c h = reset_fails _ _ _ (c.in-Err.ensures.cycle h)

pub returns-in-Err-clause-cause : goal.returns-in-Err-clause-cause
returns-in-Err-clause-cause g c h = c.in-Err.ensures.rose (reset_fails _ _ _ (c.in-Err.ensures.cycle h))

pub returns-in-Ok-clause-behind : goal.returns-in-Ok-clause-behind
returns-in-Ok-clause-behind g c h = reset_noted (g.B.Bus.die c.args.bus) (g.B.Bus.die c.command.new.self) _ _ (c.in-Ok.ensures.recorded h)
