use Rattle.std.proofs.Common.{◌∙◌}
use Rattle.disk_commands.proofs.ServeLemmas.{limited, stops_closed}
use Rattle.disk_commands.proofs.serve.serve_writing.Goals as goal

pub returns-clause-served : goal.returns-clause-served
returns-clause-served g c = record {
  first = c.new-disk.result;
  disk_is = c.new-disk.ensures.disk;
  syncs_is = c.new-disk.ensures.syncs;
  pace_is = c.new-disk.ensures.pace;
  none_changed = c.new-disk.ensures.unsynced;
  none_failed = c.new-disk.ensures.failed;
  last = c.serve_synced-served.new.disk;
  answer = c.serve_synced-served.result;
  serves = limited _ _ _ _ _ _ _ _ _ _ _ _ _ _ c.serve_synced-served.result (c.serve_synced-served.auto.buffer ∙ c.requires) c.serve_synced-served.ensures.serves;
  ends = c.end_session.ensures;
}

pub returns-clause-stops : goal.returns-clause-stops
returns-clause-stops g c = stops_closed _ c.end_session.ensures.done c.args.path c.serve_synced-served.result c.end_session.result c.serve_synced-served.ensures.stops c.end_session.ensures.told
