use Rattle.std.proofs.Common.{inl, refl}
use Rattle.ftl_disk.proofs.measures.tell.Goals as goal

pub returns-in-Ok : goal.returns-in-Ok
returns-in-Ok c = inl (refl, record { plan = c.in-Ok.plan; its = c.in-Ok.ensures; measures = c.measure.ensures })
