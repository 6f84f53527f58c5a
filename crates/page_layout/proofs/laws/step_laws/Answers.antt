use Rattle.page_layout.proofs.ErasedLemmas.{erased_at_unsound, erases_erased}
use Rattle.page_layout.proofs.FlashLemmas.{Leads-append, geometry-Leads, program_writes, program_keeps, program_means, program_fails, program_other}
use Rattle.page_layout.proofs.FlashLemmas.{program_next, erase_keeps, erase_loses, erase_erases, erase_below}
use Rattle.page_layout.proofs.RecordingLemmas.{whole_leads}
use Rattle.page_layout.proofs.laws.step_laws.Goals as goal

pub returns-clause-passed : goal.returns-clause-passed
returns-clause-passed c = program_writes

pub returns-clause-failed : goal.returns-clause-failed
returns-clause-failed c = program_keeps

pub returns-clause-outcome : goal.returns-clause-outcome
returns-clause-outcome c = program_means

pub returns-clause-fails : goal.returns-clause-fails
returns-clause-fails c = program_fails

pub returns-clause-other_rows : goal.returns-clause-other_rows
returns-clause-other_rows c = program_other

pub returns-clause-next_sequence : goal.returns-clause-next_sequence
returns-clause-next_sequence c = program_next

pub returns-clause-erase : goal.returns-clause-erase
returns-clause-erase c = erase_keeps

pub returns-clause-loses : goal.returns-clause-loses
returns-clause-loses c = erase_loses

pub returns-clause-cleared : goal.returns-clause-cleared
returns-clause-cleared c = erase_erases

pub returns-clause-erase_below : goal.returns-clause-erase_below
returns-clause-erase_below c = erase_below

pub returns-clause-erased_row : goal.returns-clause-erased_row
returns-clause-erased_row c = erased_at_unsound

pub returns-clause-erased_block : goal.returns-clause-erased_block
returns-clause-erased_block c = erases_erased

pub returns-clause-logs : goal.returns-clause-logs
returns-clause-logs c = Leads-append

pub returns-clause-geometry_stays : goal.returns-clause-geometry_stays
returns-clause-geometry_stays c = geometry-Leads

pub returns-clause-whole_stays : goal.returns-clause-whole_stays
returns-clause-whole_stays c = whole_leads
