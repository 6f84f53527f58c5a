use Rattle.nand_die.proofs.LeavesLemmas.{stop_leaves_law, whole_stop_law, torn_page_law}
use Rattle.nand_die.proofs.laws.left_laws.Goals as goal

pub returns-clause-leaves : goal.returns-clause-leaves
returns-clause-leaves c = stop_leaves_law

pub returns-clause-whole : goal.returns-clause-whole
returns-clause-whole c = whole_stop_law

pub returns-clause-torn : goal.returns-clause-torn
returns-clause-torn c = torn_page_law
