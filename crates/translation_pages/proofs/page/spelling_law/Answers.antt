use Rattle.translation_pages.proofs.PageLemmas.{one_spelling}
use Rattle.translation_pages.proofs.page.spelling_law.Goals as goal

pub returns : goal.returns
returns c = one_spelling
