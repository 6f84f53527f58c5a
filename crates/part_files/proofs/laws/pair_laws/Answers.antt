use Rattle.part_files.proofs.PairLemmas.{publishes_pair, publishes_no_pair, takes_back, takes_not_back}
use Rattle.part_files.proofs.laws.pair_laws.Goals as goal

pub returns : goal.returns
returns c = record { both = publishes_pair; neither = publishes_no_pair; taken_back = takes_back; untaken = takes_not_back }
