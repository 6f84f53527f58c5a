use Rattle.std.proofs.Common.{◌∙◌}
use Rattle.disk_server.proofs.GuardedLemmas.{length-guarded}
use Rattle.disk_server.proofs.guarded.GuardedSectorsSectors.sector_count.Goals as goal

pub returns-clause-whole : goal.returns-clause-whole
returns-clause-whole g c = length-guarded (g.S.Sectors.size c.args.self.now.sectors) c.args.self.now.lost.items 0 (g.S.Sectors.contents c.args.self.now.sectors).bytes ∙ c.sector_count.ensures.whole
