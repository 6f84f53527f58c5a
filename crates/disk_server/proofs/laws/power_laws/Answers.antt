use Rattle.disk_server.proofs.PowerLemmas.{found, leaves}
use Rattle.disk_server.proofs.laws.power_laws.Goals as goal

pub returns-clause-leaves : goal.returns-clause-leaves
returns-clause-leaves c = leaves

pub returns-clause-found : goal.returns-clause-found
returns-clause-found c = found
