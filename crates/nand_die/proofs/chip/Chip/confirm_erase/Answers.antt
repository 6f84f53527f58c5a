use Rattle.std.proofs.Common.{◌∙◌, ap, length}
use Rattle.std.proofs.lemmas.List.{with_items_is}
use Rattle.onfi_cycles.specs.Cycles.{Erases}
use Rattle.nand_die.proofs.ActLemmas.{acts_closed, change_fits, erase_acts, struck_size}
use Rattle.nand_die.proofs.chip.Chip.confirm_erase.Goals as goal

pub erase_into-change-requires-clause-left : goal.erase_into-change-requires-clause-left
erase_into-change-requires-clause-left c = struck_size c.self.inside c.as_slice.result.now _ c.self.invariant c.next_strike-strike.ensures.left c.as_slice.ensures.value

pub invariant_of-self : goal.invariant_of-self
invariant_of-self c =
    let i = c.self.inside in
    let change = c.erase_into-change in
    change_fits i change.new.bytes _ change.new.next_pages _ c.self.invariant (with_items_is i.bytes change.new.bytes (change.auto.bytes ∙ c.deref_mut.ensures.len))
    (with_items_is i.next_pages change.new.next_pages (change.auto.next_pages ∙ c.deref_mut-2.ensures.len)) change.ensures.raw (change.auto.next_pages ∙ (ap length c.deref_mut-2.ensures.value ∙ c.self.invariant.blocks))

pub returns : goal.returns
returns c =
    let i = c.self.inside in
    let change = c.erase_into-change in
    let counts = c.counts_after-self-inside in
    let strike = c.next_strike-strike in
    rw (← c.self.view_is) (acts_closed (Erases c.args.block) i change.new.bytes _ change.new.next_pages _ counts.result.abuse counts.result.asked counts.result.changes change.result.passed tt
    (with_items_is i.bytes change.new.bytes (change.auto.bytes ∙ c.deref_mut.ensures.len)) (with_items_is i.next_pages change.new.next_pages (change.auto.next_pages ∙ c.deref_mut-2.ensures.len))
    (erase_acts i c.deref_mut.result.now change.new.bytes c.deref_mut-2.result.now change.new.next_pages c.as_slice.result.now c.args.block change.result.legal change.result.passed strike.result.comes strike.result.page_left.now
    counts.result.abuse counts.result.asked counts.result.changes tt
    c.self.invariant (rw (← c.self.view_is) at c.requires.in_range) c.deref_mut.ensures.value c.deref_mut-2.ensures.value c.as_slice.ensures.value
    strike.ensures.comes strike.ensures.left (change.ensures.legal i.counts.abuse) change.ensures.passed (change.ensures.flash i.counts.abuse)
    counts.ensures.abuse counts.ensures.asked counts.ensures.changes change.ensures.raw change.auto.next_pages))
