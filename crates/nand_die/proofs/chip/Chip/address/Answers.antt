use Rattle.std.proofs.Common.{◌≡◌, ◌∙◌, ap, sym, subst, refl, ℕ, List, length, replicate}
use Rattle.std.proofs.lemmas.List.{with_items_is}
use Rattle.std.specs.Vec.{with_items}
use Rattle.page_layout.specs.Geometry.{page_bytes}
use Rattle.onfi_cycles.specs.Cycles.{Due, Loading, Refuses, address_due, to_phase}
use Rattle.nand_die.specs.contracts.chip.Chip.{the_view}
use Rattle.nand_die.specs.BusState.{phase_of}
use Rattle.nand_die.specs.Stopping.{is_change}
use Rattle.nand_die.specs.ChipValue.{Acts, ChipValue, in_state}
use Rattle.nand_die.proofs.ActLemmas.{acts_moves, fields_whole}
use Rattle.nand_die.proofs.FieldLemmas.{loaded_fits, moved_fits}
use Rattle.nand_die.proofs.chip.Chip.address.Goals as goal

pub invariant_of-self : goal.invariant_of-self
invariant_of-self c = moved_fits c.self.inside c.in-Moves.to c.self.invariant c.in-Moves.ensures.within

pub invariant_of-self-in-Loads : goal.invariant_of-self-in-Loads
invariant_of-self-in-Loads c =
    let i = c.self.inside in
    let is = with_items_is i.register c.fill.new.self (c.fill.auto.self ∙ c.as_mut_slice.ensures.len) in
    loaded_fits i _ _ c.self.invariant (ap length is ∙ (c.fill.auto.self ∙ (ap length c.as_mut_slice.ensures.value ∙ c.self.invariant.register_whole))) c.in-Loads.ensures.within

pub refuse-requires : goal.refuse-requires
refuse-requires c = c.in-Refuses.ensures.within

pub returns-in-Moves-clause-quiet : goal.returns-in-Moves-clause-quiet
returns-in-Moves-clause-quiet c = rw (← c.self.view_is) (sym (ap is_change (c.in-Moves.ensures.due c.self.inside.register.items)))

pub returns-in-Moves-clause-acts : goal.returns-in-Moves-clause-acts
returns-in-Moves-clause-acts c =
    let i = c.self.inside in
    let r : List ℕ = i.register.items in
    rw (← c.self.view_is) (acts_moves (address_due i.geometry (phase_of r i.bus_state) c.args.byte) (the_view i) _ (phase_of r c.in-Moves.to) tt (sym (c.in-Moves.ensures.due r)) refl (fields_whole i c.self.invariant))

pub returns-in-Loads-clause-quiet : goal.returns-in-Loads-clause-quiet
returns-in-Loads-clause-quiet c = rw (← c.self.view_is) (sym (ap is_change (c.in-Loads.ensures.due c.self.inside.register.items)))

pub returns-in-Loads-clause-acts : goal.returns-in-Loads-clause-acts
returns-in-Loads-clause-acts c =
    let i = c.self.inside in
    let r : List ℕ = i.register.items in
    let d : ChipValue = the_view i in
    let blank : (with_items i.register c.fill.new.self).items ≡ replicate (page_bytes i.geometry) 255
    = with_items_is i.register c.fill.new.self (c.fill.auto.self ∙ c.as_mut_slice.ensures.len) ∙ (c.fill.ensures.after (λ y e. e)
    ∙ ap (λ n. replicate n 255) (ap length c.as_mut_slice.ensures.value ∙ c.self.invariant.register_whole)) in
    rw (← c.self.view_is) (acts_moves (address_due i.geometry (phase_of r i.bus_state) c.args.byte) d _ (Loading c.in-Loads.row c.in-Loads.column (replicate (page_bytes i.geometry) 255)) tt (sym (c.in-Loads.ensures.due r))
    (ap (λ ws. in_state (to_phase (Loading c.in-Loads.row c.in-Loads.column ws) d.state) d) blank) (fields_whole i c.self.invariant))

pub returns-in-Refuses : goal.returns-in-Refuses
returns-in-Refuses c =
    let due = subst (λ (d : ChipValue). Refuses c.in-Refuses.fault ≡ address_due d.state.flash.geometry d.state.phase c.args.byte) c.self.view_is (c.in-Refuses.ensures.due c.self.inside.register.items) in
    record { acts = subst (λ (u : Due). Acts u c.args.self.now c.refuse.new.self c.refuse.result) due c.refuse.ensures; quiet = sym (ap is_change due) }
