use Rattle.mount.proofs.NextLemmas.{IsTopOf}
use Rattle.mount.proofs.mount_pages.next_sequence.Given as goal

abbrev pub invariant-loop-pair : goal.invariant-loop-pair
invariant-loop-pair l = IsTopOf l.pairs l.pair-index l.greatest
