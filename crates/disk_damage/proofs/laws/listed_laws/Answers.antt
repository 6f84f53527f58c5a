use Rattle.disk_damage.proofs.NumberLemmas.{listed_are}
use Rattle.disk_damage.proofs.laws.listed_laws.Goals as goal

pub returns : goal.returns
returns c = listed_are
