use Rattle.disk_laws.proofs.LossLemmas.{after_erase, all_gone, all_there}
use Rattle.disk_laws.proofs.StoreLostLemmas.{store_loses}
use Rattle.disk_laws.proofs.loss_laws.Goals as goal

pub returns-clause-there : goal.returns-clause-there
returns-clause-there c = all_there

pub returns-clause-erased : goal.returns-clause-erased
returns-clause-erased c = after_erase

pub returns-clause-gone : goal.returns-clause-gone
returns-clause-gone c = all_gone

pub returns-clause-store : goal.returns-clause-store
returns-clause-store c = store_loses
