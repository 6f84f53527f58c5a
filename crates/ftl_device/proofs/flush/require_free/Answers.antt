use Rattle.std.proofs.Common.{arith}
use Rattle.ftl_device.proofs.LeaveLemmas.{leaves_same, leaves_scarce}
use Rattle.ftl_device.proofs.flush.require_free.Goals as goal

pub returns-then-free-lt-LEAST_FREE-clause-leaves : goal.returns-then-free-lt-LEAST_FREE-clause-leaves
returns-then-free-lt-LEAST_FREE-clause-leaves g c = leaves_scarce g.N.PageSource.view c.args.engine.now c.requires.safe c.requires.going (omega (arith, c.if-free-lt-LEAST_FREE.true, c.free.ensures))

pub returns-clause-leaves : goal.returns-clause-leaves
returns-clause-leaves g c = leaves_same g.N.PageSource.view c.args.engine.now c.requires.safe c.requires.going
