use Rattle.commands.specs.Serve.{driver_view}
use Rattle.command_laws.proofs.MigrationLemmas.{calls_counted, first_page, migrated, number, settled, short}
use Rattle.command_laws.proofs.migration_laws.Goals as goal

pub returns-clause-migrated : goal.returns-clause-migrated
returns-clause-migrated c = migrated

pub returns-clause-settled : goal.returns-clause-settled
returns-clause-settled c = settled

pub returns-clause-short : goal.returns-clause-short
returns-clause-short c = short

pub returns-clause-number : goal.returns-clause-number
returns-clause-number c = number

pub returns-clause-first : goal.returns-clause-first
returns-clause-first c = first_page

pub returns-clause-calls : goal.returns-clause-calls
returns-clause-calls c = calls_counted driver_view
