use Rattle.file_die.proofs.LoadLemmas.{parts_given_up}
use Rattle.file_die.proofs.die.FileDie.refuse.Goals as goal

pub invariant_of-self : goal.invariant_of-self
invariant_of-self g c =
    let i = c.self.inside in
    let given = c.given_up-self-inside.ensures in
    parts_given_up (g.S.Store.held i.store) (g.S.Store.honest i.store) i.geometry i.register.items i.page.items i.page_row i.next_pages.items i.bus_state c.given_up-self-inside.result c.self.invariant (given.within i.geometry) (given.phase i.register.items)
