use Rattle.disk_server.proofs.LawLemmas.{length_law, sector_law, lasts_law, holds_law}
use Rattle.disk_server.proofs.laws.array_laws.Goals as goal

pub returns-clause-length : goal.returns-clause-length
returns-clause-length g c = length_law g.N.PageSource.view

pub returns-clause-sector : goal.returns-clause-sector
returns-clause-sector g c = sector_law g.N.PageSource.view

pub returns-clause-lasts : goal.returns-clause-lasts
returns-clause-lasts g c = lasts_law g.N.PageSource.view

pub returns-clause-holds : goal.returns-clause-holds
returns-clause-holds g c = holds_law g.N.PageSource.view.honest
