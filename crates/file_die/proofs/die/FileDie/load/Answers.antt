use Rattle.std.proofs.Common.{◌∙◌, ap, sym, subst, refl, length, map}
use Rattle.std.proofs.lemmas.List.{with_items_is, length-map}
use Rattle.std.proofs.lemmas.Result.{err_from_is_err_and}
use Rattle.page_layout.specs.declared.geometry.Geometry.{Geometry}
use Rattle.onfi_cycles.specs.Cycles.{page_of, status_of}
use Rattle.nand_die.specs.BusState.{phase_of}
use Rattle.nand_die.specs.NextPages.{next_page_of}
use Rattle.file_die.specs.Store.{AreImages}
use Rattle.file_die.proofs.LoadLemmas.{acts_shown, acts_unshown, parts_asked, parts_loaded}
use Rattle.file_die.proofs.die.FileDie.load.Goals as goal

pub invariant_of-self : goal.invariant_of-self
invariant_of-self g c =
    let i = c.self.inside in
    let asks = c.load.ensures.asks in
    let items = with_items_is i.page c.load.new.page (c.load.auto.page ∙ c.deref_mut.ensures.len) in
    let long = ap length items ∙ (c.load.auto.page ∙ ap length c.deref_mut.ensures.value) in
    let given = c.given_up-self-inside.ensures in
    parts_asked (g.S.Store.held i.store) (g.S.Store.held c.load.new.store) (g.S.Store.honest i.store) (g.S.Store.honest c.load.new.store) i.geometry i.register.items i.page.items _ i.page_row i.next_pages.items i.bus_state c.given_up-self-inside.result c.self.invariant
    asks.geometry asks.as_honest (λ h w. subst AreImages (sym (c.load.ensures.loads h).same) w) long (given.within i.geometry) (given.phase i.register.items)

pub returns-in_err-load : goal.returns-in_err-load
returns-in_err-load g c =
    let i = c.self.inside in
    let inv = c.self.invariant in
    let r = i.register.items in
    let e = err_from_is_err_and c.from_residual.result c.from_residual.ensures.1 in
    rw (e.1, e.2) (acts_unshown g.S.Store.held g.S.Store.honest g.S.Store.failed i.store c.load.new.store (map next_page_of i.next_pages.items) i.abuse (phase_of r i.bus_state) r (status_of i.passed) i.sync_when c.args.self.now i.geometry c.self.view_is inv.same inv.images
    (length-map i.next_pages.items next_page_of ∙ inv.next_pages_whole) (λ h. (c.load.ensures.loads h).same) _ _ _ (c.given_up-self-inside.ensures.phase r) c.in_err-load.ensures.asks)

pub invariant_of-self-2 : goal.invariant_of-self-2
invariant_of-self-2 g c =
    let i = c.self.inside in
    let inv = c.self.invariant in
    let asks = c.load.ensures.asks in
    let items = with_items_is i.page c.load.new.page (c.load.auto.page ∙ c.deref_mut.ensures.len) in
    let long = ap length items ∙ (c.load.auto.page ∙ ap length c.deref_mut.ensures.value) in
    parts_loaded (g.S.Store.held i.store) (g.S.Store.held c.load.new.store) (g.S.Store.honest i.store) (g.S.Store.honest c.load.new.store) i.geometry i.register.items i.page.items _ i.page_row i.next_pages.items i.bus_state c.args.row c.args.column inv
    asks.geometry asks.as_honest (λ h. (c.load.ensures.loads h).same) long (rw (← c.self.view_is, inv.same) at c.requires)
    (λ h. ap (page_of i.geometry) items ∙ (ap (λ (x : Geometry). page_of x c.load.new.page) (sym inv.same) ∙ (c.in_ok-load.ensures.loads h).gave refl))

pub returns : goal.returns
returns g c =
    let i = c.self.inside in
    let inv = c.self.invariant in
    let r = i.register.items in
    acts_shown g.S.Store.held g.S.Store.honest g.S.Store.failed i.store c.load.new.store (map next_page_of i.next_pages.items) i.abuse (phase_of r i.bus_state) r (status_of i.passed) i.sync_when c.args.self.now i.geometry c.self.view_is inv.same inv.images
    (length-map i.next_pages.items next_page_of ∙ inv.next_pages_whole) (λ h. (c.load.ensures.loads h).same) _ c.in_ok-load.ensures.asks
