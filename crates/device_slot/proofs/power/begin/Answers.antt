use Rattle.device_slot.proofs.PowerLemmas.{begun_so}
use Rattle.device_slot.proofs.power.begin.Goals as goal

pub returns-clause-begun : goal.returns-clause-begun
returns-clause-begun g c =
    let its = c.in-Ok.ensures in
    begun_so g.N.PageSource.view c.in-Ok.device c.args.nand c.args.accepted its.device its.nand its.begun its.truth its.free its.accounts c.requires.accepted
