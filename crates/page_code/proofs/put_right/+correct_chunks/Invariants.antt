use Rattle.page_code.proofs.put_right.+correct_chunks.Given as goal

abbrev pub decreases-correct_chunks : goal.decreases-correct_chunks
decreases-correct_chunks l = l.count
