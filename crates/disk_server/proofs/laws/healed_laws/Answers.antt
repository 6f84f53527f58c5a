use Rattle.disk_server.proofs.GuardedLemmas.{healed_law, unkept_law}
use Rattle.disk_server.proofs.laws.healed_laws.Goals as goal

pub returns-clause-healed : goal.returns-clause-healed
returns-clause-healed g c = healed_law _ g.K.KeepsLost.kept

pub returns-clause-unkept : goal.returns-clause-unkept
returns-clause-unkept g c = unkept_law g.K.KeepsLost.failed g.S.Sectors.flushes
