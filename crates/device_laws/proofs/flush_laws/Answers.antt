use Rattle.device_laws.proofs.DeviceLemmas.{none_stale, no_table_old, one_failure, shown_short, call_failures}
use Rattle.device_laws.proofs.flush_laws.Goals as goal

pub returns-clause-stale : goal.returns-clause-stale
returns-clause-stale c = none_stale

pub returns-clause-tables : goal.returns-clause-tables
returns-clause-tables c = no_table_old

pub returns-clause-one : goal.returns-clause-one
returns-clause-one c = one_failure

pub returns-clause-short : goal.returns-clause-short
returns-clause-short c = shown_short

pub returns-clause-failures : goal.returns-clause-failures
returns-clause-failures c = call_failures
