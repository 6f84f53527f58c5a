use Rattle.std.proofs.Common.{◌≡◌, true, [], Err, ap, refl, ◌∙◌}
use Rattle.onfi_cycles.specs.Driver.{seen}
use Rattle.nand_die.specs.DieValue.{DieValue}
use Rattle.commands.specs.Steady.{is_flawless}
use Rattle.commands.specs.declared.steady.SteadyDie.{SteadyDie}
use Rattle.commands.proofs.FormatLemmas.{formatted_image, not_risen, unformatted}
use Rattle.commands.proofs.PassedLemmas.{loaded_steady}
use Rattle.commands.proofs.SteadyLemmas.{loaded_flawless}
use Rattle.commands.proofs.format.format_image.Goals as goal

pub returns-in-Ok-answer-clause-ok : goal.returns-in-Ok-answer-clause-ok
returns-in-Ok-answer-clause-ok c =
    let g = c.args.geometry in
    let first = c.driver_of-driver.result in
    let last = c.format-answer.new.nand in
    let loaded = c.driver_of-driver.ensures.flash ∙ ap (λ (d : DieValue). d.state.flash) c.in-Ok.ensures.made in
    let flawless : is_flawless c.into_bus-die.result.die ≡ true =
    ap (λ (bus : SteadyDie). is_flawless bus.die) c.into_bus-die.ensures.bus ∙ (c.format-answer.ensures.calm ∙ (c.driver_of-driver.ensures.flawless ∙ loaded_flawless g c.args.image.now _ c.in-Ok.ensures.made)) in
    formatted_image g c.args.image.now c.image_into.new.out c.in-Ok-answer.good
    (seen first.geometry first.bus.die.state.flash) (seen last.geometry last.bus.die.state.flash) c.into_bus-die.result.die
    c.in-Ok.ensures.whole loaded (c.in-Ok-answer.ensures.formats refl) (c.into_bus-die.ensures.flash refl)
    (c.format-answer.ensures.geometry ∙ c.driver_of-driver.ensures.geometry) flawless c.image_into.ensures.pages c.image_into.ensures.bytes

pub returns-clause-fault : goal.returns-clause-fault
returns-clause-fault c =
    let g = c.args.geometry in
    let first = c.driver_of-driver.result in
    let last = c.format-answer.new.nand in
    let its = c.driver_of-driver.ensures.flash ∙ ap (λ (d : DieValue). d.state.flash) c.in-Ok.ensures.made in
    let flawless : is_flawless c.into_bus-die.result.die ≡ true =
    ap (λ (bus : SteadyDie). is_flawless bus.die) c.into_bus-die.ensures.bus ∙ (c.format-answer.ensures.calm ∙ (c.driver_of-driver.ensures.flawless ∙ loaded_flawless g c.args.image.now _ c.in-Ok.ensures.made)) in
    unformatted g c.args.image.now c.in-Err-answer.fault (seen first.geometry first.bus.die.state.flash) (seen last.geometry last.bus.die.state.flash) c.into_bus-die.result.die
    c.in-Ok.ensures.whole its (c.in-Err-answer.ensures.formats refl) (c.into_bus-die.ensures.flash refl) flawless
    (λ bus. not_risen first.failures last.failures 0 (c.in-Err-answer.ensures.bus (ap Err bus)) (c.into_bus-die.ensures.counted refl) refl)

pub driver_of-driver-requires-clause-steady : goal.driver_of-driver-requires-clause-steady
driver_of-driver-requires-clause-steady c = loaded_steady c.args.geometry c.args.image.now [] c.in-Ok.die c.in-Ok.ensures.made
