use Rattle.promises.proofs.NextLemmas.{first_page, after_erase, next_page}
use Rattle.promises.proofs.laws.next_page_laws.Goals as goal

pub returns : goal.returns
returns c = record { first = first_page; after_erase = after_erase; next = next_page }
