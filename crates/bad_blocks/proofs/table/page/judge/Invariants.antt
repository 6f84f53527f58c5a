use Rattle.std.proofs.Common.{◌≡◌, ℕ, ◌+◌, ◌*◌, ◌<◌, true}
use Rattle.page_layout.specs.Word.{word_at}
use Rattle.bad_blocks.specs.TablePage.{is_right}
use Rattle.bad_blocks.proofs.table.page.judge.Given as goal

abbrev pub invariant-loop-i : goal.invariant-loop-i
invariant-loop-i l = (k : ℕ) → k < l.i → is_right l.blocks (l.u * l.entries + k) (word_at l.page (4 * k)) ≡ true
