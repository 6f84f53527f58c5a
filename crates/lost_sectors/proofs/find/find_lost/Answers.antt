use Rattle.std.proofs.Common.{◌≡◌, subst, sym}
use Rattle.page_layout.specs.declared.geometry.Geometry.{Geometry}
use Rattle.image_check.specs.Agrees.{Agrees}
use Rattle.lost_sectors.specs.Lost.{Adds, AddsUpTo, is_lost}
use Rattle.lost_sectors.proofs.find.find_lost.Goals as goal

pub returns-in_err-list_pages-clause-only : goal.returns-in_err-list_pages-clause-only
returns-in_err-list_pages-clause-only g c h capacity agrees long =
    let held = g.S.Store.held c.args.store.now in
    let same : c.geometry-geometry.result ≡ held.geometry = c.geometry-geometry.ensures.geometry in
    subst (λ (geo : Geometry). AddsUpTo (is_lost geo held.pages c.args.mark) 0 geo.sectors c.args.lost.now c.list_pages.new.lost) same
    (c.list_pages.ensures.only h capacity (subst (λ (geo : Geometry). Agrees geo capacity held.pages c.args.certificate.now) (sym same) agrees))

pub returns-clause-adds : goal.returns-clause-adds
returns-clause-adds g c h capacity agrees long =
    let held = g.S.Store.held c.args.store.now in
    let same : c.geometry-geometry.result ≡ held.geometry = c.geometry-geometry.ensures.geometry in
    subst (λ (geo : Geometry). Adds (is_lost geo held.pages c.args.mark) 0 geo.sectors c.args.lost.now c.list_pages.new.lost) same
    (c.in_ok-list_pages.ensures.adds h capacity (subst (λ (geo : Geometry). Agrees geo capacity held.pages c.args.certificate.now) (sym same) agrees))

pub returns-clause-only : goal.returns-clause-only
returns-clause-only g c h capacity agrees long =
    let held = g.S.Store.held c.args.store.now in
    let same : c.geometry-geometry.result ≡ held.geometry = c.geometry-geometry.ensures.geometry in
    subst (λ (geo : Geometry). AddsUpTo (is_lost geo held.pages c.args.mark) 0 geo.sectors c.args.lost.now c.list_pages.new.lost) same
    (c.list_pages.ensures.only h capacity (subst (λ (geo : Geometry). Agrees geo capacity held.pages c.args.certificate.now) (sym same) agrees))
