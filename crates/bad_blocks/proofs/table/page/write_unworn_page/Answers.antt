use Rattle.std.proofs.Common.{rules}
use Rattle.bad_blocks.proofs.PageLemmas.{page_bytes}
use Rattle.bad_blocks.proofs.table.page.write_unworn_page.Goals as goal

pub returns : goal.returns
returns c = page_bytes _ _ _ _ (λ k. search rules) c.write_unworn_words.ensures
