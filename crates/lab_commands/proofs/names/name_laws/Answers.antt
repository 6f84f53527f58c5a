use Rattle.lab_commands.proofs.NameLaws.{apart_law, quiet_law}
use Rattle.lab_commands.proofs.names.name_laws.Goals as goal

pub returns-clause-quiet : goal.returns-clause-quiet
returns-clause-quiet c = quiet_law

pub returns-clause-apart : goal.returns-clause-apart
returns-clause-apart c = apart_law
