use Rattle.std.proofs.Common.{ap, sym, subst, ◌∙◌}
use Rattle.std.specs.Prelude.{unwrap_or}
use Rattle.disk_server.specs.Open.{nand_of}
use Rattle.disk_server.proofs.FaultLemmas.{handed_on}
use Rattle.disk_server.proofs.OpenedLemmas.{opened_bytes, unstarted, unopened_come, unopened_so, IsBehind, IsOver}
use Rattle.disk_server.specs.Opened.{ComesBack, IsUnmounted, IsUnstarted, view_in}
use Rattle.disk_server.proofs.opened.open_store.Goals as goal

pub returns-in_err-driver-clause-fault : goal.returns-in_err-driver-clause-fault
returns-in_err-driver-clause-fault g c = unstarted g.S.Store.held g.S.Store.honest g.S.Store.failed c.args.store c.args.capacity c.args.share _ _ c.from_residual.ensures.1 c.in_err-driver.ensures.fault

pub returns-in_err-driver-clause-given : goal.returns-in_err-driver-clause-given
returns-in_err-driver-clause-given g c = handed_on (λ e. ComesBack g.S.Store.held g.S.Store.honest c.args.store e.1 e.0) _ _ c.from_residual.ensures.1 c.in_err-driver.ensures.given

pub returns-in-Err-clause-given : goal.returns-in-Err-clause-given
returns-in-Err-clause-given g c =
    let over : IsOver g.S.Store.held g.S.Store.honest c.args.store c.in_ok-driver.driver = record { as_honest = c.in_ok-driver.ensures.honest; geometry = c.in_ok-driver.ensures.geometry; pages = c.in_ok-driver.ensures.pages } in
    let only = c.in-Err.ensures.fault in
    let behind : IsBehind g.S.Store.held g.S.Store.honest c.in_ok-driver.driver (nand_of c.in-Err.fault) c.unopened.result.0 = record {
      as_honest = only.honest_is;
      geometry = only.geometry_is;
      store = c.unopened.ensures.store;
      its = c.unopened.ensures.geometry;
    } in
    subst (λ fault. ComesBack g.S.Store.held g.S.Store.honest c.args.store fault c.unopened.result.0) (sym c.unopened.ensures.why)
    (unopened_come g.S.Store.held g.S.Store.honest g.S.Store.failed c.args.store c.in_ok-driver.driver c.geometry-geometry.result c.args.capacity c.in-Err.fault c.unopened.result.0 over behind c.in-Err.ensures.unmounted)

pub returns-in-Err-clause-fault : goal.returns-in-Err-clause-fault
returns-in-Err-clause-fault g c =
    let over : IsOver g.S.Store.held g.S.Store.honest c.args.store c.in_ok-driver.driver = record { as_honest = c.in_ok-driver.ensures.honest; geometry = c.in_ok-driver.ensures.geometry; pages = c.in_ok-driver.ensures.pages } in
    subst (λ fault. IsUnstarted g.S.Store.held g.S.Store.honest g.S.Store.failed c.args.store c.args.capacity c.args.share c.unopened.result.0 fault) (sym c.unopened.ensures.why)
    (unopened_so g.S.Store.held g.S.Store.honest g.S.Store.failed c.args.store c.in_ok-driver.driver c.args.capacity c.args.share c.in-Err.fault c.unopened.result.0 over
    c.in-Err.ensures.fault.honest_is c.unopened.ensures.counted
    (subst (λ x. IsUnmounted (view_in g.S.Store.held g.S.Store.honest g.S.Store.failed) c.in_ok-driver.driver x c.args.capacity c.in-Err.fault) c.geometry-geometry.ensures.geometry
    c.in-Err.ensures.unmounted))

pub returns-in-Ok-clause-geometry : goal.returns-in-Ok-clause-geometry
returns-in-Ok-clause-geometry g c = c.in-Ok.ensures.geometry ∙ c.geometry-geometry.ensures.geometry

pub returns-in-Ok-clause-honest : goal.returns-in-Ok-clause-honest
returns-in-Ok-clause-honest g c = c.in-Ok.ensures.honest ∙ c.in_ok-driver.ensures.honest

pub returns-in-Ok-clause-bytes : goal.returns-in-Ok-clause-bytes
returns-in-Ok-clause-bytes g c =
    let over : IsOver g.S.Store.held g.S.Store.honest c.args.store c.in_ok-driver.driver = record { as_honest = c.in_ok-driver.ensures.honest; geometry = c.in_ok-driver.ensures.geometry; pages = c.in_ok-driver.ensures.pages } in
    opened_bytes g.S.Store.held g.S.Store.honest g.S.Store.failed c.args.store c.in_ok-driver.driver c.geometry-geometry.result c.in-Ok.disk over c.geometry-geometry.ensures.geometry
    c.in-Ok.ensures.honest c.in-Ok.ensures.array

pub returns-in-Ok-clause-pages : goal.returns-in-Ok-clause-pages
returns-in-Ok-clause-pages g c = λ is. c.in-Ok.ensures.pages (c.in_ok-driver.ensures.honest ∙ is) ∙ c.in_ok-driver.ensures.flash is

pub returns-in-Ok-clause-clear : goal.returns-in-Ok-clause-clear
returns-in-Ok-clause-clear g c = λ is. ap (λ o. (unwrap_or o c.in_ok-driver.driver.told).at_hand) (c.in-Ok.ensures.told (c.in_ok-driver.ensures.honest ∙ is)) ∙ c.in_ok-driver.ensures.clear
