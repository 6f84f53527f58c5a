use Rattle.command_laws.proofs.RescueLemmas.{no_gain, none_ails, rescued_event}
use Rattle.command_laws.proofs.rescue_laws.Goals as goal

pub returns-clause-gain : goal.returns-clause-gain
returns-clause-gain c = no_gain

pub returns-clause-ails : goal.returns-clause-ails
returns-clause-ails c = none_ails

pub returns-clause-run : goal.returns-clause-run
returns-clause-run c = rescued_event
