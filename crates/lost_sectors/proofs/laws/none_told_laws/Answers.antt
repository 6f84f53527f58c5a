use Rattle.lost_sectors.proofs.LawLemmas.{loss, nothing, same, step}
use Rattle.lost_sectors.proofs.laws.none_told_laws.Goals as goal

pub returns-clause-same : goal.returns-clause-same
returns-clause-same c = same

pub returns-clause-step : goal.returns-clause-step
returns-clause-step c = step

pub returns-clause-loss : goal.returns-clause-loss
returns-clause-loss c = loss

pub returns-clause-none : goal.returns-clause-none
returns-clause-none c = nothing
