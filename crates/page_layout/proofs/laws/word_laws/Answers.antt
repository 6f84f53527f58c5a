use Rattle.page_layout.proofs.WordLemmas.{row_again, word_again}
use Rattle.page_layout.proofs.laws.word_laws.Goals as goal

pub returns-clause-row : goal.returns-clause-row
returns-clause-row c = row_again

pub returns-clause-word : goal.returns-clause-word
returns-clause-word c = word_again
