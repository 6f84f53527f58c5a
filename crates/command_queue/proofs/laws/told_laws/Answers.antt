use Rattle.command_queue.proofs.ProgramLemmas.{told_programs}
use Rattle.command_queue.proofs.laws.told_laws.Goals as goal

pub returns : goal.returns
returns g c = record { programs = told_programs g.N.PageSource.view }
