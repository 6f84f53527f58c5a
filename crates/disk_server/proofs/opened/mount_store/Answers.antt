use Rattle.std.proofs.Common.{Err, ap, refl, subst}
use Rattle.mount.specs.Mounted.{Refuses}
use Rattle.disk_server.specs.Opened.{ComesBack, flash_in}
use Rattle.disk_server.proofs.FaultLemmas.{handed_on}
use Rattle.disk_server.proofs.OpenedLemmas.{another, come, comes, refused_so, unbegun, IsBehind, IsOver}
use Rattle.disk_server.specs.declared.opened.OpenStoreFault.TheVariants as why
use Rattle.disk_server.proofs.opened.mount_store.Goals as goal

pub returns-in-Ok-clause-back : goal.returns-in-Ok-clause-back
returns-in-Ok-clause-back g c =
    let over : IsOver g.S.Store.held g.S.Store.honest c.args.store c.in_ok-driver.driver = record { as_honest = c.in_ok-driver.ensures.honest; geometry = c.in_ok-driver.ensures.geometry; pages = c.in_ok-driver.ensures.pages } in
    let behind : IsBehind g.S.Store.held g.S.Store.honest c.in_ok-driver.driver c.mount.new.source c.store_behind.result =
    record {
      as_honest = c.in-Ok.ensures.only_reads.honest_is;
      geometry = c.in-Ok.ensures.only_reads.geometry_is;
      store =
          c.store_behind.ensures.store;
      its = c.store_behind.ensures.geometry;
    } in
    come g.S.Store.held g.S.Store.honest c.args.store c.in_ok-driver.driver c.mount.new.source c.store_behind.result over behind (λ is. c.in-Ok.ensures.same (λ e. absurd (cc)) is)

pub returns-in-Err-clause-given : goal.returns-in-Err-clause-given
returns-in-Err-clause-given g c =
    let over : IsOver g.S.Store.held g.S.Store.honest c.args.store c.in_ok-driver.driver = record { as_honest = c.in_ok-driver.ensures.honest; geometry = c.in_ok-driver.ensures.geometry; pages = c.in_ok-driver.ensures.pages } in
    let behind : IsBehind g.S.Store.held g.S.Store.honest c.in_ok-driver.driver c.mount.new.source c.store_behind-in-Err.result =
    record {
      as_honest = c.in-Err.ensures.only_reads.honest_is;
      geometry = c.in-Err.ensures.only_reads.geometry_is;
      store =
          c.store_behind-in-Err.ensures.store;
      its = c.store_behind-in-Err.ensures.geometry;
    } in
    comes g.S.Store.held g.S.Store.honest c.args.store c.in_ok-driver.driver c.mount.new.source c.store_behind-in-Err.result (why.Mount c.in-Err.refusal) over behind
    (λ other is. c.in-Err.ensures.same (another (Err c.in-Err.refusal) c.in-Err.refusal refl other) is)

pub returns-in_err-driver-clause-fault : goal.returns-in_err-driver-clause-fault
returns-in_err-driver-clause-fault g c = unbegun g.S.Store.held g.S.Store.honest g.S.Store.failed c.args.store c.args.capacity _ _ c.from_residual.ensures.1 c.in_err-driver.ensures.fault

pub returns-in_err-driver-clause-given : goal.returns-in_err-driver-clause-given
returns-in_err-driver-clause-given g c = handed_on (λ e. ComesBack g.S.Store.held g.S.Store.honest c.args.store e.1 e.0) _ _ c.from_residual.ensures.1 c.in_err-driver.ensures.given

pub returns-in-Err-clause-fault : goal.returns-in-Err-clause-fault
returns-in-Err-clause-fault g c =
    let over : IsOver g.S.Store.held g.S.Store.honest c.args.store c.in_ok-driver.driver = record { as_honest = c.in_ok-driver.ensures.honest; geometry = c.in_ok-driver.ensures.geometry; pages = c.in_ok-driver.ensures.pages } in
    refused_so g.S.Store.held g.S.Store.honest g.S.Store.failed c.args.store c.in_ok-driver.driver c.mount.new.source c.args.capacity c.store_behind-in-Err.result c.in-Err.refusal over
    c.in-Err.ensures.only_reads.honest_is c.store_behind-in-Err.ensures.counted
    (λ is. subst (λ x. Refuses x c.args.capacity (flash_in g.S.Store.held c.in_ok-driver.driver).image c.in-Err.refusal) c.geometry-geometry.ensures.geometry (c.in-Err.ensures.err is))
    (λ is. c.in-Err.ensures.rose (ap Err is))
