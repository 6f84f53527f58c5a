use Rattle.nand_die.proofs.NextLemmas.{next_law}
use Rattle.nand_die.proofs.LawLemmas.{named_law, none_misnamed_law, one_misnamed_law, none_wrong_law, one_wrong_law}
use Rattle.nand_die.proofs.laws.made_laws.Goals as goal

pub returns-clause-next_page : goal.returns-clause-next_page
returns-clause-next_page c = next_law

pub returns-clause-named : goal.returns-clause-named
returns-clause-named c = named_law

pub returns-clause-none_misnamed : goal.returns-clause-none_misnamed
returns-clause-none_misnamed c = none_misnamed_law

pub returns-clause-one_misnamed : goal.returns-clause-one_misnamed
returns-clause-one_misnamed c = one_misnamed_law

pub returns-clause-none_wrong : goal.returns-clause-none_wrong
returns-clause-none_wrong c = none_wrong_law

pub returns-clause-one_wrong : goal.returns-clause-one_wrong
returns-clause-one_wrong c = one_wrong_law
