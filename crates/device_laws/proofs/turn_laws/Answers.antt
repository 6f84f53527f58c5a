use Rattle.device_laws.proofs.DeviceLemmas.{goes_on, begins, rescue_first}
use Rattle.device_laws.proofs.turn_laws.Goals as goal

pub returns-clause-on : goal.returns-clause-on
returns-clause-on c = goes_on

pub returns-clause-begins : goal.returns-clause-begins
returns-clause-begins c = begins

pub returns-clause-rescue : goal.returns-clause-rescue
returns-clause-rescue c = rescue_first
