use Rattle.part_files.specs.Names.{call_came}
use Rattle.part_files.proofs.CallLemmas.{two_calls}
use Rattle.part_files.proofs.parts.publish_over.Goals as goal

pub returns-clause-named : goal.returns-clause-named
returns-clause-named g c = record { synced = call_came c.sync_folder.result; calls = two_calls _ _ _ _ _ _ _ c.in_ok-rename.ensures c.sync_folder.ensures }
