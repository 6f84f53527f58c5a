use Rattle.budget.proofs.AccountLemmas.{no_page, one_page, few_openings, few_meta_openings, stuck, collected}
use Rattle.budget.proofs.laws.account_laws.Goals as goal

pub returns : goal.returns
returns c = record {
  none = no_page;
  one_more = one_page;
  openings = few_openings;
  meta_openings = few_meta_openings;
  stuck = stuck;
  collected = collected;
}
