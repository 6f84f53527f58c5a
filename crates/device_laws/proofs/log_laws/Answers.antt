use Rattle.device_laws.proofs.CollectionLemmas.{nothing, led, takes, legal}
use Rattle.device_laws.proofs.NumberLemmas.{rises}
use Rattle.device_laws.proofs.log_laws.Goals as goal

pub returns-clause-nothing : goal.returns-clause-nothing
returns-clause-nothing c = nothing

pub returns-clause-led : goal.returns-clause-led
returns-clause-led c = led

pub returns-clause-takes : goal.returns-clause-takes
returns-clause-takes c = takes

pub returns-clause-legal : goal.returns-clause-legal
returns-clause-legal c = legal

pub returns-clause-rises : goal.returns-clause-rises
returns-clause-rises c = rises
