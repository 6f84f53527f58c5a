use Rattle.allocation.proofs.OtherLemmas.{live_counts, none_counts}
use Rattle.allocation.proofs.TallyLemmas.{fits, failed}
use Rattle.allocation.proofs.laws.count_laws.Goals as goal

pub returns : goal.returns
returns c = record { fits = fits; failed = failed; none = none_counts; live = live_counts }
