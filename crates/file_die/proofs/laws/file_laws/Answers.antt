use Rattle.file_die.proofs.FileLawLemmas.{failed_sync_law, over_law, part_write_law, raw_law}
use Rattle.file_die.proofs.laws.file_laws.Goals as goal

pub returns-clause-over : goal.returns-clause-over
returns-clause-over c = over_law

pub returns-clause-raw : goal.returns-clause-raw
returns-clause-raw c = raw_law

pub returns-clause-part_write : goal.returns-clause-part_write
returns-clause-part_write c = part_write_law

pub returns-clause-failed_sync : goal.returns-clause-failed_sync
returns-clause-failed_sync c = failed_sync_law
