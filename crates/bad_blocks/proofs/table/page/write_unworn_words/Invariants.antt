use Rattle.std.proofs.Common.{◌≡◌, ℕ, ◌+◌, ◌*◌, ◌<◌}
use Rattle.page_layout.specs.Word.{word_at}
use Rattle.bad_blocks.specs.Table.{unworn}
use Rattle.bad_blocks.specs.TablePage.{table_word}
use Rattle.bad_blocks.proofs.table.page.write_unworn_words.Given as goal

abbrev pub invariant-loop-i : goal.invariant-loop-i
invariant-loop-i l = (k : ℕ) → k < l.i → word_at l.page (4 * k) ≡ table_word (unworn l.classes) (l.u * l.entries + k)
