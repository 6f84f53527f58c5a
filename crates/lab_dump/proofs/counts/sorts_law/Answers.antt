use Rattle.lab_dump.proofs.CountLemmas.{sorts}
use Rattle.lab_dump.proofs.counts.sorts_law.Goals as goal

pub returns : goal.returns
returns c = sorts
