use Rattle.page_layout.proofs.FlashLemmas.{program_fair, erase_fair, program_refused, erase_refused}
use Rattle.page_layout.proofs.NextPageLemmas.{program_next, program_count, erase_next, erase_count}
use Rattle.page_layout.proofs.laws.next_page_laws.Goals as goal

pub returns-clause-program : goal.returns-clause-program
returns-clause-program c = program_next

pub returns-clause-fair_program : goal.returns-clause-fair_program
returns-clause-fair_program c = program_fair

pub returns-clause-erase : goal.returns-clause-erase
returns-clause-erase c = erase_next

pub returns-clause-fair_erase : goal.returns-clause-fair_erase
returns-clause-fair_erase c = erase_fair

pub returns-clause-refused_program : goal.returns-clause-refused_program
returns-clause-refused_program c = program_refused

pub returns-clause-refused_erase : goal.returns-clause-refused_erase
returns-clause-refused_erase c = erase_refused

pub returns-clause-program_count : goal.returns-clause-program_count
returns-clause-program_count c = program_count

pub returns-clause-erase_count : goal.returns-clause-erase_count
returns-clause-erase_count c = erase_count
