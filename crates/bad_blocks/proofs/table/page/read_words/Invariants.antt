use Rattle.bad_blocks.proofs.TableLemmas.{IsReadTo}
use Rattle.bad_blocks.proofs.table.page.read_words.Given as goal

abbrev pub invariant-loop-i : goal.invariant-loop-i
invariant-loop-i l = IsReadTo l.entries l.u l.i l.page l.fn.rows l.rows
