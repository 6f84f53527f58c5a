use Rattle.std.proofs.Common.{◌≡◌, ◌∙◌, List, ℕ, ap, subst}
use Rattle.page_layout.specs.Flash.{Flash}
use Rattle.onfi_cycles.specs.Driver.{flash_by}
use Rattle.nand_die.specs.DieValue.{DieValue}
use Rattle.nand_die.specs.Made.{loaded_flash}
use Rattle.commands.specs.declared.steady.SteadyDie.{SteadyDie}
use Rattle.commands.specs.Check.{HasImageLength}
use Rattle.commands.specs.Serve.{bad_in}
use Rattle.commands.proofs.claimed.driver_over.Goals as goal

pub returns-clause-held : goal.returns-clause-held
returns-clause-held c =
    let claimed = c.args.claimed.now in
    let geometry = claimed.asked.geometry in
    let s : Flash = flash_by {B = SteadyDie} (λ bus. bus.die.state) c.driver_of.result in
    subst (λ (b : List ℕ). s ≡ loaded_flash geometry b (bad_in geometry claimed.certificate)) c.deref.ensures.value
    (c.driver_of.ensures.flash ∙ ap (λ (d : DieValue). d.state.flash) c.in_ok-die.ensures.made)

pub returns-clause-whole : goal.returns-clause-whole
returns-clause-whole c = subst (λ (b : List ℕ). HasImageLength c.args.claimed.now.asked.geometry b) c.deref.ensures.value c.in_ok-die.ensures.whole
