use Rattle.lab_dump.proofs.BoundLemmas.{broken_page_law, own_row_law, bound_law, kept_law, others_law}
use Rattle.lab_dump.proofs.laws.bound_laws.Goals as goal

pub returns-clause-broken : goal.returns-clause-broken
returns-clause-broken c = broken_page_law

pub returns-clause-own : goal.returns-clause-own
returns-clause-own c = own_row_law

pub returns-clause-bound : goal.returns-clause-bound
returns-clause-bound c = bound_law

pub returns-clause-kept : goal.returns-clause-kept
returns-clause-kept c = kept_law

pub returns-clause-others : goal.returns-clause-others
returns-clause-others c = others_law
