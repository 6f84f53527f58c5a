use Rattle.std.proofs.Common.{◌∙◌, []}
use Rattle.onfi_cycles.specs.Cycles.{Command}
use Rattle.onfi_cycles.specs.Recorded.{Calls}
use Rattle.onfi_cycles.proofs.Sending.{spells_more}
use Rattle.onfi_cycles.proofs.Asking.{sends_more}
use Rattle.onfi_cycles.proofs.spelling.start.Goals as goal

pub returns-clause-spells : goal.returns-clause-spells
returns-clause-spells g c h =
    spells_more _ (g.B.Bus.die c.command.new.self) _ (Command c.args.code) _ _ (c.in_ok-command.ensures.cycle h) (c.send_addresses.ensures.spells (c.command.ensures.honest ∙ h))

pub returns-clause-sends : goal.returns-clause-sends
returns-clause-sends g c = sends_more (Calls g.B.Bus.die g.B.Bus.honest g.B.Bus.recorded g.B.Bus.called) _ c.command.new.self _ (Command c.args.code)
    _ (λ _. []) _ (let e' = c.in_ok-command.ensures in record { said = e'.called; as_honest = e'.honest; step = e'.cycle; noted = e'.recorded })
    c.send_addresses.ensures.sends
