use Rattle.part_files.specs.Names.{call_came}
use Rattle.part_files.proofs.CallLemmas.{two_calls}
use Rattle.part_files.proofs.parts.replace_made.Goals as goal

pub returns-in-Ok-clause-named : goal.returns-in-Ok-clause-named
returns-in-Ok-clause-named g c = record { synced = call_came c.sync_folder.result; calls = two_calls _ _ _ _ _ _ _ c.in-Ok.ensures c.sync_folder.ensures }

pub returns-in-Err-clause-given_back : goal.returns-in-Err-clause-given_back
returns-in-Err-clause-given_back g c = record { removed = call_came c.remove.result; calls = two_calls _ _ _ _ _ _ _ c.in-Err.ensures c.remove.ensures }
