use Rattle.ftl_device.proofs.RenewedLemmas.{none_old_law, stays_new, brought_forward}
use Rattle.ftl_device.proofs.laws.renewed_laws.Goals as goal

pub returns-clause-none : goal.returns-clause-none
returns-clause-none c = none_old_law

pub returns-clause-stays : goal.returns-clause-stays
returns-clause-stays c = stays_new

pub returns-clause-forward : goal.returns-clause-forward
returns-clause-forward c = brought_forward
