use Rattle.std.proofs.Common.{inl, refl}
use Rattle.ftl_disk.proofs.ResetLemmas.{lost}
use Rattle.ftl_disk.proofs.reset.coded_die.Goals as goal

pub returns-clause-fault : goal.returns-clause-fault
returns-clause-fault g c = inl (refl, lost g.L.Link.called c.args.link c.new-2.result c.in-Err-die_on_chip.field-0.0 c.in-Err-die_on_chip.field-0.2 c.new-2.ensures c.in-Err-die_on_chip.ensures.sent.sent c.in-Err-die_on_chip.ensures.rose)
