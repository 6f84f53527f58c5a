use Rattle.disk_server.proofs.FlatLemmas.{flat_law}
use Rattle.disk_server.proofs.laws.flat_laws.Goals as goal

pub returns : goal.returns
returns c = flat_law
