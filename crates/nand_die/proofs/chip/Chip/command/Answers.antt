use Rattle.std.proofs.Common.{◌≡◌, ◌∙◌, ◌<◌, ap, sym, subst, refl, ℕ, List}
use Rattle.page_layout.specs.Geometry.{row_count}
use Rattle.onfi_cycles.specs.Cycles.{Due, Programs, Erases, Refuses, Loading, page_of, command_due}
use Rattle.nand_die.specs.contracts.chip.Chip.{the_view}
use Rattle.nand_die.specs.BusState.{phase_of}
use Rattle.nand_die.specs.ChipValue.{ChipValue, Acts}
use Rattle.nand_die.proofs.ActLemmas.{acts_moves, acts_resets, fields_whole}
use Rattle.nand_die.proofs.FieldLemmas.{moved_fits}
use Rattle.nand_die.proofs.chip.Chip.command.Goals as goal

pub invariant_of-self : goal.invariant_of-self
invariant_of-self c = moved_fits c.self.inside c.in-Moves.to c.self.invariant c.in-Moves.ensures.within

pub invariant_of-self-in-Resets : goal.invariant_of-self-in-Resets
invariant_of-self-in-Resets c = moved_fits c.self.inside _ c.self.invariant tt

pub confirm_program-requires : goal.confirm_program-requires
confirm_program-requires c = record { in_range = subst (λ (d : ChipValue). c.in-Programs.row < row_count d.state.flash.geometry) c.self.view_is c.in-Programs.ensures.within.2 }

pub confirm_erase-requires : goal.confirm_erase-requires
confirm_erase-requires c = record { in_range = subst (λ (d : ChipValue). c.in-Erases.block < d.state.flash.geometry.blocks) c.self.view_is c.in-Erases.ensures.within }

pub refuse-requires : goal.refuse-requires
refuse-requires c = c.in-Refuses.ensures.within

pub returns-in-Moves : goal.returns-in-Moves
returns-in-Moves c =
    let i = c.self.inside in
    let r : List ℕ = i.register.items in
    rw (← c.self.view_is) (acts_moves (command_due i.geometry (phase_of r i.bus_state) c.args.code) (the_view i) _ (phase_of r c.in-Moves.to) tt (sym (c.in-Moves.ensures.due r)) refl (fields_whole i c.self.invariant))

pub returns-in-Resets : goal.returns-in-Resets
returns-in-Resets c =
    let i = c.self.inside in
    let r : List ℕ = i.register.items in
    rw (← c.self.view_is) (acts_resets (command_due i.geometry (phase_of r i.bus_state) c.args.code) (the_view i) _ tt (sym (c.in-Resets.ensures.due r)) refl (fields_whole i c.self.invariant))

pub returns-in-Programs : goal.returns-in-Programs
returns-in-Programs c =
    let i = c.self.inside in
    let r : List ℕ = i.register.items in
    let fits = c.in-Programs.ensures.within in
    let at : c.args.self.now.state.phase ≡ Loading c.in-Programs.row fits.0 r = sym (ap (λ (d : ChipValue). d.state.phase) c.self.view_is) ∙ ap (phase_of r) fits.1 in
    let due : Programs c.in-Programs.row (page_of c.args.self.now.state.flash.geometry r) ≡ command_due c.args.self.now.state.flash.geometry c.args.self.now.state.phase c.args.code
    = subst (λ (d : ChipValue). Programs c.in-Programs.row (page_of d.state.flash.geometry r) ≡ command_due d.state.flash.geometry d.state.phase c.args.code) c.self.view_is (c.in-Programs.ensures.due r) in
    subst (λ (u : Due). Acts u c.args.self.now c.confirm_program.new.self c.confirm_program.result) due (c.confirm_program.ensures r fits.0 at)

pub returns-in-Erases : goal.returns-in-Erases
returns-in-Erases c =
    let due = subst (λ (d : ChipValue). Erases c.in-Erases.block ≡ command_due d.state.flash.geometry d.state.phase c.args.code) c.self.view_is (c.in-Erases.ensures.due c.self.inside.register.items) in
    subst (λ (u : Due). Acts u c.args.self.now c.confirm_erase.new.self c.confirm_erase.result) due c.confirm_erase.ensures

pub returns-in-Refuses : goal.returns-in-Refuses
returns-in-Refuses c =
    let due = subst (λ (d : ChipValue). Refuses c.in-Refuses.fault ≡ command_due d.state.flash.geometry d.state.phase c.args.code) c.self.view_is (c.in-Refuses.ensures.due c.self.inside.register.items) in
    subst (λ (u : Due). Acts u c.args.self.now c.refuse.new.self c.refuse.result) due c.refuse.ensures
