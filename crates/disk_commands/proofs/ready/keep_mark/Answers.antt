use Rattle.std.proofs.Common.{inl}
use Rattle.disk_commands.proofs.OpeningLemmas.{told_fault}
use Rattle.disk_commands.proofs.ready.keep_mark.Goals as goal

pub returns-in-Err : goal.returns-in-Err
returns-in-Err g c = record {
  marked = tt;
  fault = inl (told_fault (g.F.DiskFiles.answers c.args.files.now) c.in-Err.fault c.args.path 0 c.told_at.result c.in-Err.ensures.failed c.told_at.ensures);
  opened = c.keep_mark.ensures.opened;
  kept = c.keep_mark.ensures.kept;
}
