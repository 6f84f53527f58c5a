use Rattle.allocation.proofs.OtherLemmas.{next_not_closed, last_page, bad, bad_stays, failed_others, erased_others, taken_others, live_others}
use Rattle.allocation.proofs.laws.block_laws.Goals as goal

pub returns : goal.returns
returns c = record {
  next = next_not_closed;
  last_page = last_page;
  bad = bad;
  bad_stays = bad_stays;
  failed = failed_others;
  erased = erased_others;
  taken = taken_others;
  live = live_others;
}
