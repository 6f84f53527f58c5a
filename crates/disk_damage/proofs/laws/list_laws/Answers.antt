use Rattle.disk_damage.proofs.NumberLemmas.{cut_read, list_read}
use Rattle.disk_damage.proofs.laws.list_laws.Goals as goal

pub returns-clause-read : goal.returns-clause-read
returns-clause-read c = list_read

pub returns-clause-cut : goal.returns-clause-cut
returns-clause-cut c = cut_read
