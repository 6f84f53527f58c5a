use Rattle.part_files.proofs.CallLemmas.{settled}
use Rattle.part_files.proofs.parts.settle.Goals as goal

pub returns : goal.returns
returns g c = settled _ _ _ c.sync_folder.ensures c.remove.ensures c.sync_folder-2.ensures
