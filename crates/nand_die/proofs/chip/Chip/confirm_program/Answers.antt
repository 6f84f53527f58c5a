use Rattle.std.proofs.Common.{◌≡◌, ◌∙◌, ap, subst, length, Ok}
use Rattle.std.proofs.lemmas.List.{with_items_is}
use Rattle.std.specs.Vec.{with_items}
use Rattle.onfi_cycles.specs.Cycles.{Programs, page_of}
use Rattle.nand_die.specs.declared.bus_state.BusState.TheVariants.{Ready}
use Rattle.nand_die.specs.declared.bus_state.OutputSource.TheVariants.{Nothing}
use Rattle.nand_die.specs.contracts.chip.Chip.{the_view}
use Rattle.nand_die.specs.ChipValue.{ChipValue, Acts}
use Rattle.nand_die.proofs.ActLemmas.{acts_closed, change_fits, program_acts, struck_size, loading_register}
use Rattle.nand_die.proofs.chip.Chip.confirm_program.Goals as goal

pub program_into-change-requires-clause-left : goal.program_into-change-requires-clause-left
program_into-change-requires-clause-left c = struck_size c.self.inside c.as_slice.result.now _ c.self.invariant c.next_strike-strike.ensures.left c.as_slice.ensures.value

pub invariant_of-self : goal.invariant_of-self
invariant_of-self c =
    let i = c.self.inside in
    let change = c.program_into-change in
    change_fits i change.new.bytes _ change.new.next_pages _ c.self.invariant (with_items_is i.bytes change.new.bytes (change.auto.bytes ∙ c.deref_mut.ensures.len))
    (with_items_is i.next_pages change.new.next_pages (change.auto.next_pages ∙ c.deref_mut-2.ensures.len)) change.ensures.raw (change.auto.next_pages ∙ (ap length c.deref_mut-2.ensures.value ∙ c.self.invariant.blocks))

pub returns : goal.returns
returns c register column at =
    let i = c.self.inside in
    let change = c.program_into-change in
    let counts = c.counts_after-self-inside in
    let strike = c.next_strike-strike in
    let new : ChipValue = the_view
    (record {
      geometry = i.geometry;
      bytes = with_items i.bytes change.new.bytes;
      register = i.register;
      next_pages = with_items i.next_pages
          change.new.next_pages;
      bus_state = Ready Nothing;
      passed = change.result.passed;
      faults = i.faults;
      counts = counts.result;
    }) in
    let same : i.register.items ≡ register = loading_register i.register.items i.bus_state c.args.row column register (ap (λ (d : ChipValue). d.state.phase) c.self.view_is ∙ at) in
    subst (λ ws. Acts {A = Unit {0}} (Programs c.args.row (page_of c.args.self.now.state.flash.geometry ws)) c.args.self.now new (Ok tt)) same
    (rw (← c.self.view_is) (acts_closed (Programs c.args.row (page_of i.geometry i.register.items)) i change.new.bytes _ change.new.next_pages _ counts.result.abuse counts.result.asked counts.result.changes change.result.passed tt
    (with_items_is i.bytes change.new.bytes (change.auto.bytes ∙ c.deref_mut.ensures.len)) (with_items_is i.next_pages change.new.next_pages (change.auto.next_pages ∙ c.deref_mut-2.ensures.len))
    (program_acts i c.deref_mut.result.now c.deref.result.now change.new.bytes c.deref_mut-2.result.now change.new.next_pages c.as_slice.result.now c.args.row change.result.legal change.result.passed strike.result.comes strike.result.page_left.now
    counts.result.abuse counts.result.asked counts.result.changes tt
    c.self.invariant (rw (← c.self.view_is) at c.requires.in_range) c.deref_mut.ensures.value c.deref_mut-2.ensures.value c.deref.ensures.value c.as_slice.ensures.value
    strike.ensures.comes strike.ensures.left (change.ensures.legal i.counts.abuse) change.ensures.passed (change.ensures.flash i.counts.abuse)
    counts.ensures.abuse counts.ensures.asked counts.ensures.changes change.ensures.raw change.auto.next_pages)))
