use Rattle.promises.proofs.LegalLemmas.{empty, join, accounts_join, one_more, no_bad_block, not_twice, on_erased, in_order}
use Rattle.promises.proofs.laws.legal_laws.Goals as goal

pub returns : goal.returns
returns c = record { empty = empty; join = join; accounts = accounts_join; one_more = one_more; no_bad_block = no_bad_block; not_twice = not_twice; on_erased = on_erased; in_order = in_order }
