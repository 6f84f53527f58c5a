use Rattle.std.proofs.Common.{refl}
use Rattle.disk_server.proofs.GuardedLemmas.{rest_shown}
use Rattle.disk_server.proofs.guarded.GuardedSectorsSectors.rest.Goals as goal

pub returns-clause-idles : goal.returns-clause-idles
returns-clause-idles g c =
    rest_shown g.S.Sectors.contents g.S.Sectors.size g.S.Sectors.honest g.S.Sectors.calm c.args.self.now c.rest.result
    (record { sectors = c.rest.new.self; keeper = c.args.self.now.keeper; lost = c.args.self.now.lost; failed = c.args.self.now.failed })
    c.rest.ensures.size refl c.rest.ensures.idles
