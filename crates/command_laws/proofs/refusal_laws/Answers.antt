use Rattle.command_laws.proofs.RefusalLemmas.{capacity, row_past, sector_past, stop_told, too_few, unread_file}
use Rattle.command_laws.proofs.refusal_laws.Goals as goal

pub returns-clause-row : goal.returns-clause-row
returns-clause-row g c = row_past g.F.FileStore.gives

pub returns-clause-sector : goal.returns-clause-sector
returns-clause-sector g c = sector_past g.F.FileStore.gives

pub returns-clause-good : goal.returns-clause-good
returns-clause-good g c = too_few g.F.FileStore.gives

pub returns-clause-capacity : goal.returns-clause-capacity
returns-clause-capacity g c = capacity g.F.FileStore.gives

pub returns-clause-unread : goal.returns-clause-unread
returns-clause-unread g c = unread_file g.F.FileStore.gives

pub returns-clause-stopped : goal.returns-clause-stopped
returns-clause-stopped g c = stop_told g.F.FileStore.gives
