use Rattle.crash_recovery.proofs.TakenLemmas.{loss, loss_lasts, spare, dead_spare}
use Rattle.crash_recovery.proofs.laws.taken_laws.Goals as goal

pub returns-clause-spare : goal.returns-clause-spare
returns-clause-spare c = spare

pub returns-clause-dead_spare : goal.returns-clause-dead_spare
returns-clause-dead_spare c = dead_spare

pub returns-clause-loss : goal.returns-clause-loss
returns-clause-loss c = loss

pub returns-clause-loss_lasts : goal.returns-clause-loss_lasts
returns-clause-loss_lasts c = loss_lasts
