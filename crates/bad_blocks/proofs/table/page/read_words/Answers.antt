use Rattle.std.proofs.Common.{arith, rules, ◌∙◌}
use Rattle.bad_blocks.proofs.PageLemmas.{page_bytes}
use Rattle.bad_blocks.proofs.TableLemmas.{none_read, one_read, padding_read}
use Rattle.bad_blocks.proofs.table.page.read_words.Goals as goal
use Rattle.bad_blocks.proofs.table.page.read_words.Goals.{then-block-rows, else-block-rows}

pub loop-i-init : goal.loop-i-init
loop-i-init c = none_read _ _ _ _ c.requires.counted

pub loop-i-preserved : goal.loop-i-preserved
loop-i-preserved c = elim c.if-block-rows.branch [
  | then-block-rows w ↦ rw w.rows-is (one_read _ _ _ _ _ _ _ _ c.loop-i.invariant c.block_of-block.ensures c.loop-i-test.true w.if-block-rows.true (w.row_from.ensures.is ∙ w.read_word.ensures) w.row_from.ensures.counted)
  | else-block-rows w ↦ rw w.rows-is (padding_read _ _ _ _ _ _ _ c.loop-i.invariant (rw c.entries_of-entries.ensures.is c.requires.right) c.block_of-block.ensures c.loop-i-test.true w.if-block-rows.false)
]

pub returns-clause-words : goal.returns-clause-words
returns-clause-words c = record {
  whole = omega (arith, c.entries_of-entries.ensures.whole);
  words = rw (← c.entries_of-entries.ensures.is) (λ i l. c.loop-i.invariant.read i (omega arith));
}

pub returns-clause-spelled : goal.returns-clause-spelled
returns-clause-spelled c = page_bytes _ _ _ _ (λ k. search rules) (returns-clause-words c)
