use Rattle.std.proofs.Common.{◌∙◌, map, refl, rules}
use Rattle.std.proofs.lemmas.List.{length-map}
use Rattle.onfi_cycles.specs.Cycles.{status_of}
use Rattle.nand_die.specs.BusState.{phase_of}
use Rattle.nand_die.specs.NextPages.{next_page_of}
use Rattle.file_die.proofs.DieLemmas.{asks_none}
use Rattle.file_die.proofs.LoadLemmas.{acts_shown, parts_shown}
use Rattle.file_die.proofs.die.FileDie.show.Goals as goal

pub invariant_of-self : goal.invariant_of-self
invariant_of-self g c =
    let i = c.self.inside in
    parts_shown (g.S.Store.held i.store) (g.S.Store.honest i.store) i.geometry i.register.items i.page.items i.page_row i.next_pages.items i.bus_state c.args.row c.args.column c.self.invariant
    (search rules) (rw (← c.self.view_is, c.self.invariant.same) at c.requires)

pub returns : goal.returns
returns g c =
    let i = c.self.inside in
    let inv = c.self.invariant in
    let r = i.register.items in
    acts_shown g.S.Store.held g.S.Store.honest g.S.Store.failed i.store i.store (map next_page_of i.next_pages.items) i.abuse (phase_of r i.bus_state) r (status_of i.passed) i.sync_when c.args.self.now i.geometry c.self.view_is inv.same inv.images
    (length-map i.next_pages.items next_page_of ∙ inv.next_pages_whole) (λ h. refl) _ (asks_none g.S.Store.held g.S.Store.honest g.S.Store.failed i.store)
