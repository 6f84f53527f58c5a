use Rattle.noisy_chip.proofs.garble.+turn_chunks.Given as goal

abbrev pub decreases-turn_chunks : goal.decreases-turn_chunks
decreases-turn_chunks l = l.count
