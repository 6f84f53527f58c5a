use Rattle.image_check.proofs.SequenceLemmas.{distinct_holds, repeated_at, sequences_wrong}
use Rattle.image_check.proofs.sequences.check_sequences.Goals as goal

pub returns-in-Some-clause-err : goal.returns-in-Some-clause-err
returns-in-Some-clause-err c = λ g capacity image claim whole is.
    sequences_wrong g capacity image claim _ _ (repeated_at g image c.args.pairs.now c.first_repeated.new.pairs _ _ whole is c.first_repeated.ensures.permutation c.first_repeated.ensures.sorted c.in-Some.ensures.found)

pub returns-in-None-clause-ok : goal.returns-in-None-clause-ok
returns-in-None-clause-ok c = λ g image whole is. distinct_holds g image c.args.pairs.now c.first_repeated.new.pairs whole is c.first_repeated.ensures.permutation c.first_repeated.ensures.sorted c.in-None.ensures.none
