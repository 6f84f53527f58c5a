use Rattle.std.proofs.Common.{inl, refl}
use Rattle.ftl_disk.proofs.ResetLemmas.{lost}
use Rattle.ftl_disk.proofs.reset.plain_die.Goals as goal

pub returns-clause-fault : goal.returns-clause-fault
returns-clause-fault g c = inl (refl, lost g.L.Link.called c.args.link c.new.result c.in-Err.field-0.0 c.in-Err.field-0.1 c.new.ensures c.in-Err.ensures.sent.sent c.in-Err.ensures.rose)
