use Rattle.std.proofs.Common.{arith}
use Rattle.mount.proofs.NextLemmas.{next_of_all}
use Rattle.mount.proofs.mount_pages.next_sequence.Goals as goal

pub returns-clause-ok : goal.returns-clause-ok
returns-clause-ok c = λ g image h tables. next_of_all c.args.pairs.now c.loop-pair.pair-index c.loop-pair.greatest _ c.loop-pair.invariant (omega arith) (omega arith) g image h tables
