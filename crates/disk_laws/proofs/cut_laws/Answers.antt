use Rattle.disk_laws.proofs.CutCallLemmas.{cut_call, cut_call_leaves, disk_fault, fault_is_cut}
use Rattle.disk_laws.proofs.cut_laws.Goals as goal

pub returns : goal.returns
returns g c =
    let n = g.N.PageSource in
    record { disk = disk_fault n.view; fault = fault_is_cut n.view; call = cut_call n.view; leaves = cut_call_leaves n.view }
