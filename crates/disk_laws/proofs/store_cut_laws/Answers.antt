use Rattle.disk_laws.proofs.CutCallLemmas.{store_cut, store_cut_loses, told_cut}
use Rattle.disk_laws.proofs.store_cut_laws.Goals as goal

pub returns : goal.returns
returns g c =
    let s = g.S.Store in
    record { told = told_cut s.held s.honest s.failed; store = store_cut s.held s.honest s.failed; loses = store_cut_loses s.held s.honest s.failed }
