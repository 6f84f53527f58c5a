use Rattle.lost_sectors.proofs.LostLemmas.{lost}
use Rattle.lost_sectors.proofs.LawLemmas.{damage, names, one_more_damage, undamaged, unsound}
use Rattle.lost_sectors.proofs.laws.told_laws.Goals as goal

pub returns-clause-lost : goal.returns-clause-lost
returns-clause-lost c = lost

pub returns-clause-unsound : goal.returns-clause-unsound
returns-clause-unsound c = unsound

pub returns-clause-damage : goal.returns-clause-damage
returns-clause-damage c = damage

pub returns-clause-names : goal.returns-clause-names
returns-clause-names c = names

pub returns-clause-undamaged : goal.returns-clause-undamaged
returns-clause-undamaged c = undamaged

pub returns-clause-more : goal.returns-clause-more
returns-clause-more c = one_more_damage
