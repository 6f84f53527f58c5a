use Rattle.budget.proofs.CopyLemmas.{copies_fit_at, copies_fit, touched_pages}
use Rattle.budget.proofs.laws.copy_laws.Goals as goal

pub returns : goal.returns
returns c = record { fit_at = copies_fit_at; fit = copies_fit; touched = touched_pages }
