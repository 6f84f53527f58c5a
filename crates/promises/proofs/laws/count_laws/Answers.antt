use Rattle.promises.proofs.CountLemmas.{sums, since, failed, good, free, free_counted}
use Rattle.promises.proofs.laws.count_laws.Goals as goal

pub returns : goal.returns
returns c = record { sums = sums; since = since; failed = failed; good = good; free = free; free_count = free_counted }
