use Rattle.disk_laws.proofs.KilledLemmas.{store_tells}
use Rattle.disk_laws.proofs.store_laws.Goals as goal

pub returns : goal.returns
returns g c = store_tells g.S.Store.held
