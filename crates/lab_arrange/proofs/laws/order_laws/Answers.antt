use Rattle.lab_arrange.proofs.LawLemmas.{header_law, length_law, order_law, told_law}
use Rattle.lab_arrange.proofs.laws.order_laws.Goals as goal

pub returns-clause-order : goal.returns-clause-order
returns-clause-order c = order_law

pub returns-clause-header : goal.returns-clause-header
returns-clause-header c = header_law

pub returns-clause-length : goal.returns-clause-length
returns-clause-length c = length_law

pub returns-clause-told : goal.returns-clause-told
returns-clause-told c = told_law
