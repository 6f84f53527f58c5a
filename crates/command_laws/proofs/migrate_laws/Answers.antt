use Rattle.command_laws.proofs.MigrationLemmas.{migrate_done, migrate_stops}
use Rattle.command_laws.proofs.migrate_laws.Goals as goal

pub returns-clause-done : goal.returns-clause-done
returns-clause-done g c = migrate_done g.F.FileStore.gives

pub returns-clause-stops : goal.returns-clause-stops
returns-clause-stops g c = migrate_stops g.F.FileStore.gives
