use Rattle.image_laws.proofs.PowerLemmas.{all_lost, all_stored, either, found_mounts, found_one, found_refused, none_lost, one_more_lost, program_grows, program_mounts}
use Rattle.image_laws.proofs.PowerLemmas.{since, stored_mounts, stored_stays, unwritten}
use Rattle.image_laws.proofs.StaleLemmas.{found_stale, program_entries, stored_entries}
use Rattle.image_laws.proofs.power_laws.Goals as goal

pub returns-clause-one : goal.returns-clause-one
returns-clause-one c = found_one

pub returns-clause-stored : goal.returns-clause-stored
returns-clause-stored c = stored_stays

pub returns-clause-since : goal.returns-clause-since
returns-clause-since c = since

pub returns-clause-sector : goal.returns-clause-sector
returns-clause-sector c = either

pub returns-clause-unwritten : goal.returns-clause-unwritten
returns-clause-unwritten c = unwritten

pub returns-clause-all : goal.returns-clause-all
returns-clause-all c = all_stored

pub returns-clause-program : goal.returns-clause-program
returns-clause-program c = program_grows

pub returns-clause-none_lost : goal.returns-clause-none_lost
returns-clause-none_lost c = none_lost

pub returns-clause-all_lost : goal.returns-clause-all_lost
returns-clause-all_lost c = all_lost

pub returns-clause-one_more : goal.returns-clause-one_more
returns-clause-one_more c = one_more_lost

pub returns-clause-stored_mounts : goal.returns-clause-stored_mounts
returns-clause-stored_mounts c = stored_mounts

pub returns-clause-program_mounts : goal.returns-clause-program_mounts
returns-clause-program_mounts c = program_mounts

pub returns-clause-mounts : goal.returns-clause-mounts
returns-clause-mounts c = found_mounts

pub returns-clause-refused : goal.returns-clause-refused
returns-clause-refused c = found_refused

pub returns-clause-stored_entries : goal.returns-clause-stored_entries
returns-clause-stored_entries c = stored_entries

pub returns-clause-stale : goal.returns-clause-stale
returns-clause-stale c = found_stale

pub returns-clause-program_entries : goal.returns-clause-program_entries
returns-clause-program_entries c = program_entries
