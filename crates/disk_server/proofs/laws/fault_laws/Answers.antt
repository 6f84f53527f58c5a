use Rattle.disk_server.proofs.LawLemmas.{no_space, read_only, closed}
use Rattle.disk_server.proofs.laws.fault_laws.Goals as goal

pub returns-clause-no_space : goal.returns-clause-no_space
returns-clause-no_space c = no_space

pub returns-clause-read_only : goal.returns-clause-read_only
returns-clause-read_only c = read_only

pub returns-clause-closed : goal.returns-clause-closed
returns-clause-closed c = closed
