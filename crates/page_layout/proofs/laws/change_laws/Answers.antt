use Rattle.page_layout.proofs.StepLemmas.{passed_writes, failed_keeps, lost_keeps, none_live}
use Rattle.page_layout.proofs.laws.change_laws.Goals as goal

pub returns-clause-program : goal.returns-clause-program
returns-clause-program c = passed_writes

pub returns-clause-failure : goal.returns-clause-failure
returns-clause-failure c = failed_keeps

pub returns-clause-erase : goal.returns-clause-erase
returns-clause-erase c = lost_keeps

pub returns-clause-none_live : goal.returns-clause-none_live
returns-clause-none_live c = none_live
