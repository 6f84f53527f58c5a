use Rattle.promises.proofs.LogLemmas.{counts, passed_erases, bad_join, bad_stays, complete}
use Rattle.promises.proofs.laws.log_laws.Goals as goal

pub returns : goal.returns
returns c = record { counts = counts; passed_erases = passed_erases; bad_join = bad_join; bad_stays = bad_stays; complete = complete }
