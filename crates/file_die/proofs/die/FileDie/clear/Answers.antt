use Rattle.std.proofs.Common.{refl}
use Rattle.file_die.proofs.LoadLemmas.{parts_asked}
use Rattle.file_die.proofs.die.FileDie.clear.Goals as goal

pub invariant_of-self : goal.invariant_of-self
invariant_of-self g c =
    let i = c.self.inside in
    let asks = c.erase.ensures.asks in
    let given = c.given_up-self-inside.ensures in
    parts_asked (g.S.Store.held i.store) (g.S.Store.held c.erase.new.store) (g.S.Store.honest i.store) (g.S.Store.honest c.erase.new.store) i.geometry i.register.items i.page.items i.page.items i.page_row i.next_pages.items i.bus_state c.given_up-self-inside.result c.self.invariant
    asks.geometry asks.as_honest (λ h. (c.erase.ensures.erases h).clears.whole) refl (given.within i.geometry) (given.phase i.register.items)
