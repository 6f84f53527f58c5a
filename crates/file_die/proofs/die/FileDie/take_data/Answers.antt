use Rattle.std.proofs.Common.{◌≡◌, ◌∙◌, ap, sym, ℕ, ◌+◌, List, length, map}
use Rattle.std.proofs.lemmas.List.{with_items_is, length-map}
use Rattle.std.specs.Vec.{with_items}
use Rattle.onfi_cycles.specs.Cycles.{Moves, Loading, data_in_due, replaced}
use Rattle.nand_die.specs.BusState.{phase_of}
use Rattle.nand_die.specs.NextPages.{next_page_of}
use Rattle.nand_die.proofs.ActLemmas.{taken_in}
use Rattle.file_die.proofs.DieLemmas.{acts_moves}
use Rattle.file_die.proofs.die.FileDie.take_data.Goals as goal

pub returns-in-Ok : goal.returns-in-Ok
returns-in-Ok g c =
    let i = c.self.inside in
    let inv = c.self.invariant in
    let r : List ℕ = i.register.items in
    let to = c.in-Ok.column + length c.args.bytes.now in
    let bytes : List ℕ = c.args.bytes.now in
    let taken = taken_in i.geometry r c.deref_mut.result.now bytes c.copy_from_slice.new.self i.bus_state c.in-Ok.row c.in-Ok.column c.in-Ok.ensures.ok inv.register_whole c.deref_mut.ensures.value c.copy_from_slice.ensures.after in
    let is : (with_items i.register _).items ≡ replaced r c.in-Ok.column bytes = with_items_is i.register _ (taken.1 ∙ c.deref_mut.ensures.len) ∙ taken.2 in
    acts_moves g.S.Store.held g.S.Store.honest g.S.Store.failed (λ geometry phase. data_in_due geometry phase bytes) i.store (map next_page_of i.next_pages.items) i.abuse (phase_of r i.bus_state) r _ i.sync_when c.args.self.now i.geometry
    (Loading c.in-Ok.row to (with_items i.register _).items) (with_items i.register _).items c.self.view_is inv.same (taken.0 ∙ ap (λ ws. Moves (Loading c.in-Ok.row to ws)) (sym is)) inv.images (length-map i.next_pages.items next_page_of ∙ inv.next_pages_whole)
