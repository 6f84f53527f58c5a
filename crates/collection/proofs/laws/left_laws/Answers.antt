use Rattle.collection.proofs.HalfDone.{idle_law}
use Rattle.collection.proofs.Lefts.{pin_law, left_law, unshared_left_law, touched_law, kept_law, calm_law, passed_law, few_law, copy_law, write_law}
use Rattle.collection.proofs.laws.left_laws.Goals as goal

pub returns-clause-idle : goal.returns-clause-idle
returns-clause-idle c = idle_law

pub returns-clause-pinned : goal.returns-clause-pinned
returns-clause-pinned c = pin_law

pub returns-clause-below : goal.returns-clause-below
returns-clause-below c = left_law

pub returns-clause-unshared : goal.returns-clause-unshared
returns-clause-unshared c = unshared_left_law

pub returns-clause-touched : goal.returns-clause-touched
returns-clause-touched c = touched_law

pub returns-clause-kept : goal.returns-clause-kept
returns-clause-kept c = kept_law

pub returns-clause-calm : goal.returns-clause-calm
returns-clause-calm c = calm_law

pub returns-clause-few : goal.returns-clause-few
returns-clause-few c = few_law

pub returns-clause-passed : goal.returns-clause-passed
returns-clause-passed c = passed_law

pub returns-clause-copied : goal.returns-clause-copied
returns-clause-copied c = copy_law

pub returns-clause-written : goal.returns-clause-written
returns-clause-written c = write_law
