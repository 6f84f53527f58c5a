use Rattle.page_layout.proofs.StepLemmas.{array_kept, array_written, array_unwritten}
use Rattle.page_layout.proofs.laws.array_laws.Goals as goal

pub returns-clause-kept : goal.returns-clause-kept
returns-clause-kept c = array_kept

pub returns-clause-written : goal.returns-clause-written
returns-clause-written c = array_written

pub returns-clause-unwritten : goal.returns-clause-unwritten
returns-clause-unwritten c = array_unwritten
