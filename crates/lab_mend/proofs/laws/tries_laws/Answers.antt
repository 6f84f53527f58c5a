use Rattle.lab_mend.proofs.TriesLemmas.{tries_law, turn_tries_law}
use Rattle.lab_mend.proofs.laws.tries_laws.Goals as goal

pub returns-clause-merge : goal.returns-clause-merge
returns-clause-merge c = tries_law

pub returns-clause-repair : goal.returns-clause-repair
returns-clause-repair c = turn_tries_law
