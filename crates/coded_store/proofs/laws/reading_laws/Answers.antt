use Rattle.coded_store.proofs.LawLemmas.{mended_law, lost_law, no_page_law, own_law, erased_law, file_law}
use Rattle.coded_store.proofs.AnyLemmas.{any_law}
use Rattle.coded_store.proofs.StoreLemmas.{blank_law, blank_file_law, rows_law}
use Rattle.coded_store.proofs.laws.reading_laws.Goals as goal

pub returns-clause-mended : goal.returns-clause-mended
returns-clause-mended c = mended_law

pub returns-clause-lost : goal.returns-clause-lost
returns-clause-lost c = lost_law

pub returns-clause-any : goal.returns-clause-any
returns-clause-any c = any_law

pub returns-clause-no_page : goal.returns-clause-no_page
returns-clause-no_page c = no_page_law

pub returns-clause-own : goal.returns-clause-own
returns-clause-own c = own_law

pub returns-clause-erased : goal.returns-clause-erased
returns-clause-erased c = erased_law

pub returns-clause-blank : goal.returns-clause-blank
returns-clause-blank c = blank_law

pub returns-clause-blank_file : goal.returns-clause-blank_file
returns-clause-blank_file c = blank_file_law

pub returns-clause-rows : goal.returns-clause-rows
returns-clause-rows c = rows_law

pub returns-clause-file : goal.returns-clause-file
returns-clause-file c = file_law
