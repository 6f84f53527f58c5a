use Rattle.std.proofs.Common.{◌≡◌, ◌∙◌, ap, refl, subst, sym, ℕ, ◌+◌, ◌<◌, ◌≤◌, List, length}
use Rattle.std.proofs.lemmas.List.{with_items_is}
use Rattle.std.specs.Vec.{with_items}
use Rattle.page_layout.specs.Geometry.{page_bytes, row_count}
use Rattle.onfi_cycles.specs.Cycles.{Due, Loading, Refuses, data_in_due, to_phase, replaced}
use Rattle.nand_die.specs.contracts.chip.Chip.{the_view}
use Rattle.nand_die.specs.BusState.{IsWithin, phase_of}
use Rattle.nand_die.specs.Stopping.{is_change}
use Rattle.nand_die.specs.ChipValue.{Acts, ChipValue, in_state}
use Rattle.nand_die.proofs.ActLemmas.{acts_moves, fields_whole, taken_in}
use Rattle.nand_die.proofs.chip.Chip.data_in.Goals as goal

pub invariant_of-self : goal.invariant_of-self
invariant_of-self c =
    let i = c.self.inside in
    let inv = c.self.invariant in
    let taken = taken_in i.geometry i.register.items c.deref_mut.result.now c.args.bytes.now c.copy_from_slice.new.self i.bus_state c.in-Ok.row c.in-Ok.column c.in-Ok.ensures.ok inv.register_whole
    c.deref_mut.ensures.value c.copy_from_slice.ensures.after in
    let at : (c.in-Ok.row < row_count i.geometry) × (c.in-Ok.column ≤ page_bytes i.geometry) = subst (IsWithin i.geometry) c.in-Ok.ensures.ok.0 inv.within in
    record {
      raw = inv.raw;
      register_whole = ap length (with_items_is i.register _ (taken.1 ∙ c.deref_mut.ensures.len)) ∙ (taken.1 ∙ (ap length c.deref_mut.ensures.value ∙ inv.register_whole));
      blocks = inv.blocks;
      within = (at.0, c.in-Ok.ensures.ok.1);
      left = inv.left;
    }

pub returns-in-Ok-clause-quiet : goal.returns-in-Ok-clause-quiet
returns-in-Ok-clause-quiet c =
    let i = c.self.inside in
    let taken = taken_in i.geometry i.register.items c.deref_mut.result.now c.args.bytes.now c.copy_from_slice.new.self i.bus_state c.in-Ok.row c.in-Ok.column c.in-Ok.ensures.ok c.self.invariant.register_whole
    c.deref_mut.ensures.value c.copy_from_slice.ensures.after in
    rw (← c.self.view_is) (ap is_change taken.0)

pub returns-in-Ok-clause-acts : goal.returns-in-Ok-clause-acts
returns-in-Ok-clause-acts c =
    let i = c.self.inside in
    let r : List ℕ = i.register.items in
    let d : ChipValue = the_view i in
    let column = c.in-Ok.column in
    let bytes : List ℕ = c.args.bytes.now in
    let taken = taken_in i.geometry r c.deref_mut.result.now bytes c.copy_from_slice.new.self i.bus_state c.in-Ok.row column c.in-Ok.ensures.ok c.self.invariant.register_whole c.deref_mut.ensures.value c.copy_from_slice.ensures.after in
    let is : (with_items i.register _).items ≡ replaced r column bytes = with_items_is i.register _ (taken.1 ∙ c.deref_mut.ensures.len) ∙ taken.2 in
    rw (← c.self.view_is) (acts_moves (data_in_due i.geometry (phase_of r i.bus_state) bytes) d _ (Loading c.in-Ok.row (column + length bytes) (replaced r column bytes)) tt taken.0
    (ap (λ ws. in_state (to_phase (Loading c.in-Ok.row (column + length bytes) ws) d.state) d) is) (fields_whole i c.self.invariant))

pub returns-in-Err : goal.returns-in-Err
returns-in-Err c =
    let i = c.self.inside in
    let bytes : List ℕ = c.args.bytes.now in
    let due = subst (λ (d : ChipValue). data_in_due d.state.flash.geometry d.state.phase bytes ≡ Refuses c.in-Err.fault) c.self.view_is (c.in-Err.ensures.err i.register.items bytes refl) in
    record { acts = subst (λ (u : Due). Acts u c.args.self.now c.refuse.new.self c.refuse.result) (sym due) c.refuse.ensures; quiet = ap is_change due }
