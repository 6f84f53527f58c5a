use Rattle.page_layout.proofs.GeometryLemmas.{worth, no_share, greater_share, fewer_needed, sector_entry, block_entry, table_fits}
use Rattle.page_layout.proofs.laws.geometry_laws.Goals as goal

pub returns-clause-worth : goal.returns-clause-worth
returns-clause-worth c = worth

pub returns-clause-no_share : goal.returns-clause-no_share
returns-clause-no_share c = no_share

pub returns-clause-greater_share : goal.returns-clause-greater_share
returns-clause-greater_share c = greater_share

pub returns-clause-fewer_needed : goal.returns-clause-fewer_needed
returns-clause-fewer_needed c = fewer_needed

pub returns-clause-sector_entry : goal.returns-clause-sector_entry
returns-clause-sector_entry c = sector_entry

pub returns-clause-block_entry : goal.returns-clause-block_entry
returns-clause-block_entry c = block_entry

pub returns-clause-table_fits : goal.returns-clause-table_fits
returns-clause-table_fits c = table_fits
