use Rattle.nand_die.proofs.LawLemmas.{program_passes_law, erase_passes_law, program_abuse_law, erase_abuse_law, count_law, quiet_law}
use Rattle.nand_die.proofs.laws.change_laws.Goals as goal

pub returns-clause-program : goal.returns-clause-program
returns-clause-program c = program_passes_law

pub returns-clause-erase : goal.returns-clause-erase
returns-clause-erase c = erase_passes_law

pub returns-clause-program_abuse : goal.returns-clause-program_abuse
returns-clause-program_abuse c = program_abuse_law

pub returns-clause-erase_abuse : goal.returns-clause-erase_abuse
returns-clause-erase_abuse c = erase_abuse_law

pub returns-clause-count : goal.returns-clause-count
returns-clause-count c = count_law

pub returns-clause-quiet : goal.returns-clause-quiet
returns-clause-quiet c = quiet_law
