use Rattle.std.proofs.Common.{◌∙◌, ap, sym, subst}
use Rattle.std.specs.Prelude.{slice_set}
use Rattle.std.proofs.lemmas.List.{with_items_is}
use Rattle.std.specs.Vec.{with_items}
use Rattle.page_layout.specs.Raw.{raw_image, IsRaw}
use Rattle.onfi_cycles.specs.Cycles.{page_of}
use Rattle.file_die.proofs.MemoryLemmas.{puts}
use Rattle.file_die.proofs.memory_store.MemoryStoreStore.put.Goals as goal

pub invariant_of-self : goal.invariant_of-self
invariant_of-self c =
    let i = c.self.inside in
    subst (IsRaw i.geometry) (sym (with_items_is i.bytes c.write_page.new.bytes (c.write_page.auto.bytes ∙ c.deref_mut.ensures.len))) c.write_page.ensures.raw

pub returns-clause-puts : goal.returns-clause-puts
returns-clause-puts c e =
    let i = c.self.inside in
    let is_bytes = with_items_is i.bytes c.write_page.new.bytes (c.write_page.auto.bytes ∙ c.deref_mut.ensures.len) in
    let page = page_of i.geometry c.args.page.now in
    rw (← c.self.view_is) (puts i.geometry i.bytes.items (with_items i.bytes c.write_page.new.bytes).items c.args.row page
    (subst (IsRaw i.geometry) (sym is_bytes) c.write_page.ensures.raw)
    (ap (raw_image i.geometry) is_bytes ∙ (c.write_page.ensures.image ∙ ap (λ bs. slice_set (raw_image i.geometry bs) c.args.row page) c.deref_mut.ensures.value)))
