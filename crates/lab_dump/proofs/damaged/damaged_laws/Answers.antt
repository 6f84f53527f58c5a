use Rattle.lab_dump.proofs.DamagedLemmas as lemmas
use Rattle.lab_dump.proofs.WrittenLemmas as written
use Rattle.lab_dump.proofs.damaged.damaged_laws.Goals as goal

pub returns-clause-damaged : goal.returns-clause-damaged
returns-clause-damaged c = lemmas.damaged_law

pub returns-clause-otherwise : goal.returns-clause-otherwise
returns-clause-otherwise c = lemmas.otherwise_law

pub returns-clause-marked : goal.returns-clause-marked
returns-clause-marked c = lemmas.marked_law

pub returns-clause-unmarked : goal.returns-clause-unmarked
returns-clause-unmarked c = written.unmarked_law
