use Rattle.std.proofs.Common.{rules}
use Rattle.bad_blocks.proofs.PageLemmas.{page_bytes}
use Rattle.bad_blocks.proofs.table.page.write_table_page.Goals as goal

pub returns : goal.returns
returns c = rw (← c.table.view_is, ← c.deref.ensures.value) (page_bytes _ _ _ _ (λ k. search rules) c.write_words.ensures)
