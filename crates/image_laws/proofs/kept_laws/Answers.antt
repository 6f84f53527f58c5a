use Rattle.image_laws.proofs.KeptLemmas.{other_rows, other_pages, lowest_table}
use Rattle.image_laws.proofs.kept_laws.Goals as goal

pub returns-clause-rows : goal.returns-clause-rows
returns-clause-rows c = other_rows

pub returns-clause-pages : goal.returns-clause-pages
returns-clause-pages c = other_pages

pub returns-clause-table : goal.returns-clause-table
returns-clause-table c = lowest_table
