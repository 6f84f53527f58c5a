use Rattle.std.proofs.Common.{◌∙◌, ap, sym, subst, replicate}
use Rattle.std.proofs.lemmas.List.{with_items_is}
use Rattle.std.specs.Vec.{with_items}
use Rattle.page_layout.specs.Raw.{raw_image, IsRaw}
use Rattle.page_layout.specs.Change.{erased_page}
use Rattle.page_layout.specs.Flash.{with_block}
use Rattle.file_die.proofs.MemoryLemmas.{clears}
use Rattle.file_die.proofs.memory_store.MemoryStoreStore.clear.Goals as goal

pub invariant_of-self : goal.invariant_of-self
invariant_of-self c =
    let i = c.self.inside in
    subst (IsRaw i.geometry) (sym (with_items_is i.bytes c.erase_pages.new.bytes (c.erase_pages.auto.bytes ∙ c.deref_mut.ensures.len))) c.erase_pages.ensures.raw

pub returns-clause-clears : goal.returns-clause-clears
returns-clause-clears c e =
    let i = c.self.inside in
    let g = i.geometry in
    let is_bytes = with_items_is i.bytes c.erase_pages.new.bytes (c.erase_pages.auto.bytes ∙ c.deref_mut.ensures.len) in
    rw (← c.self.view_is) (clears g i.bytes.items (with_items i.bytes c.erase_pages.new.bytes).items c.args.block
    (rw (← c.self.view_is) at c.requires.in_range)
    (subst (IsRaw g) (sym is_bytes) c.erase_pages.ensures.raw)
    (ap (raw_image g) is_bytes ∙ (c.erase_pages.ensures.image ∙ ap (λ bs. with_block g.pages c.args.block (replicate g.pages (erased_page g)) (raw_image g bs)) c.deref_mut.ensures.value)))
