use Rattle.disk_commands.proofs.MarkFileLemmas.{blank_mark}
use Rattle.disk_commands.proofs.MarkLemmas.{found_back, slot_back, slot_placed, torn_files, torn_slots}
use Rattle.disk_commands.proofs.mark.mark_laws.Goals as goal

pub returns-clause-slot : goal.returns-clause-slot
returns-clause-slot c = slot_back

pub returns-clause-torn : goal.returns-clause-torn
returns-clause-torn c = torn_slots

pub returns-clause-file : goal.returns-clause-file
returns-clause-file c = torn_files

pub returns-clause-place : goal.returns-clause-place
returns-clause-place c = slot_placed

pub returns-clause-back : goal.returns-clause-back
returns-clause-back c = found_back

pub returns-clause-blank : goal.returns-clause-blank
returns-clause-blank c = blank_mark
