use Rattle.image_laws.proofs.FormatLemmas.{untouched, lost, enough, alone, no_failure, table_page, low_sequence}
use Rattle.image_laws.proofs.format_laws.Goals as goal

pub returns-clause-untouched : goal.returns-clause-untouched
returns-clause-untouched c = untouched

pub returns-clause-lost : goal.returns-clause-lost
returns-clause-lost c = lost

pub returns-clause-enough : goal.returns-clause-enough
returns-clause-enough c = enough

pub returns-clause-calm : goal.returns-clause-calm
returns-clause-calm c = no_failure

pub returns-clause-sequences : goal.returns-clause-sequences
returns-clause-sequences c = low_sequence

pub returns-clause-page : goal.returns-clause-page
returns-clause-page c = table_page

pub returns-clause-alone : goal.returns-clause-alone
returns-clause-alone c = alone
