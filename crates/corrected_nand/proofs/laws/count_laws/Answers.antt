use Rattle.corrected_nand.proofs.Counts.{clean_law, turned_law, lost_law, top_law}
use Rattle.corrected_nand.proofs.laws.count_laws.Goals as goal

pub returns-clause-clean : goal.returns-clause-clean
returns-clause-clean c = clean_law

pub returns-clause-turned : goal.returns-clause-turned
returns-clause-turned c = turned_law

pub returns-clause-lost : goal.returns-clause-lost
returns-clause-lost c = lost_law

pub returns-clause-top : goal.returns-clause-top
returns-clause-top c = top_law
