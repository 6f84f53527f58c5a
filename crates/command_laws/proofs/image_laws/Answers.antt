use Rattle.command_laws.proofs.CommandLemmas.{held, other_geometry, only_other, accepted, spelled, formatted, served}
use Rattle.command_laws.proofs.image_laws.Goals as goal

pub returns-clause-held : goal.returns-clause-held
returns-clause-held c = held

pub returns-clause-other : goal.returns-clause-other
returns-clause-other c = other_geometry

pub returns-clause-only : goal.returns-clause-only
returns-clause-only c = only_other

pub returns-clause-accepted : goal.returns-clause-accepted
returns-clause-accepted c = accepted

pub returns-clause-spelled : goal.returns-clause-spelled
returns-clause-spelled c = spelled

pub returns-clause-formatted : goal.returns-clause-formatted
returns-clause-formatted c = formatted

pub returns-clause-served : goal.returns-clause-served
returns-clause-served c = served
