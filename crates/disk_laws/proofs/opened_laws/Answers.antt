use Rattle.disk_laws.proofs.LostCutLemmas.{lost_cut}
use Rattle.disk_laws.proofs.LostOpenedLemmas.{lost_opened}
use Rattle.disk_laws.proofs.SparedRuns.{killed_opened, killed_spares, own_mark}
use Rattle.disk_laws.proofs.opened_laws.Goals as goal

pub returns : goal.returns
returns g c =
    let n = g.N.PageSource in
    record { own = own_mark n.view; spares = killed_spares n.view; killed = killed_opened n.view; lost_cut = lost_cut n.view; lost = lost_opened n.view }
