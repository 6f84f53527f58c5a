use Rattle.std.proofs.Common.{inr, subst, sym}
use Rattle.disk_server.specs.Reopened.{IsOpenedFrom}
use Rattle.disk_server.proofs.reopened.ReopenedDevice.open.Goals as goal

pub returns-in-Ok-clause-opened : goal.returns-in-Ok-clause-opened
returns-in-Ok-clause-opened g c = λ done. (
  c.into_sectors.result,
  rw (← c.self.view_is) (subst (λ d. IsOpenedFrom g.S.Store.held g.S.Store.honest g.S.Store.failed (record { size = c.self.inside.size; count = c.self.inside.count; capacity = c.self.inside.capacity; share = c.self.inside.share; sync_when = c.self.inside.sync_when }) c.args.store d) (sym c.into_sectors.ensures) (record {
    as_honest = c.in-Ok.ensures.honest;
    bytes = c.in-Ok.ensures.bytes;
    pages = c.in-Ok.ensures.pages;
    clear = c.in-Ok.ensures.clear;
    entries = c.in-Ok.ensures.entries;
    share = c.in-Ok.ensures.share;
    syncs = c.in-Ok.ensures.syncs;
    geometry = c.in-Ok.ensures.geometry;
  })),
  c.take_in.ensures.taken done,
  c.take_in.ensures.long done,
)

pub returns-in-Ok-clause-unopened : goal.returns-in-Ok-clause-unopened
returns-in-Ok-clause-unopened g c = λ other. inr (
  c.into_sectors.result,
  rw (← c.self.view_is) (subst (λ d. IsOpenedFrom g.S.Store.held g.S.Store.honest g.S.Store.failed (record { size = c.self.inside.size; count = c.self.inside.count; capacity = c.self.inside.capacity; share = c.self.inside.share; sync_when = c.self.inside.sync_when }) c.args.store d) (sym c.into_sectors.ensures) (record {
    as_honest = c.in-Ok.ensures.honest;
    bytes = c.in-Ok.ensures.bytes;
    pages = c.in-Ok.ensures.pages;
    clear = c.in-Ok.ensures.clear;
    entries = c.in-Ok.ensures.entries;
    share = c.in-Ok.ensures.share;
    syncs = c.in-Ok.ensures.syncs;
    geometry = c.in-Ok.ensures.geometry;
  })),
  c.take_in.ensures.left other,
)
