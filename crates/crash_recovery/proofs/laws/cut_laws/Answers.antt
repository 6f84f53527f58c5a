use Rattle.crash_recovery.proofs.OrderLemmas.{again, cut_law, good_in_order, healed, order}
use Rattle.crash_recovery.proofs.TakenLemmas.{dead, tail}
use Rattle.crash_recovery.proofs.laws.cut_laws.Goals as goal

pub returns-clause-good : goal.returns-clause-good
returns-clause-good c = good_in_order

pub returns-clause-order : goal.returns-clause-order
returns-clause-order c = order

pub returns-clause-cut : goal.returns-clause-cut
returns-clause-cut c = cut_law

pub returns-clause-tail : goal.returns-clause-tail
returns-clause-tail c = tail

pub returns-clause-dead : goal.returns-clause-dead
returns-clause-dead c = dead

pub returns-clause-healed : goal.returns-clause-healed
returns-clause-healed c = healed

pub returns-clause-again : goal.returns-clause-again
returns-clause-again c = again
