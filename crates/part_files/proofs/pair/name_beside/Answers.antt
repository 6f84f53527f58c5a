use Rattle.std.proofs.Common.{inl}
use Rattle.part_files.specs.Names.{call_came}
use Rattle.part_files.proofs.CallLemmas.{two_calls}
use Rattle.part_files.proofs.pair.name_beside.Goals as goal

pub returns-in-Ok-clause-named : goal.returns-in-Ok-clause-named
returns-in-Ok-clause-named g c = inl (record { synced = call_came c.sync_folder.result; calls = two_calls _ _ _ _ _ _ _ c.in-Ok.ensures c.sync_folder.ensures })
