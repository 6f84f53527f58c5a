use Rattle.std.proofs.lemmas.List.Sorted.{IsPermutation-trans}
use Rattle.lab_dump.proofs.RepeatLemmas.{repeats}
use Rattle.lab_dump.proofs.repeated.shared_sequence.Goals as goal

pub returns : goal.returns
returns c = λ g image before whole is moved.
    let sorted = c.first_repeated.ensures in
    repeats g image before c.first_repeated.new.pairs c.first_repeated.result whole is (IsPermutation-trans before c.args.pairs.now c.first_repeated.new.pairs moved sorted.permutation) sorted.sorted sorted.none sorted.found
