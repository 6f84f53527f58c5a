use Rattle.disk_commands.proofs.MarkFileLemmas.{wrote}
use Rattle.disk_commands.proofs.mark_file.MarkFile.put.Goals as goal

pub returns-clause-writes : goal.returns-clause-writes
returns-clause-writes g c = λ h long.
    wrote (g.F.ByteFile.held c.args.self.now.file) (g.F.ByteFile.held c.write_all.new.file) c.args.self.now.second c.args.mark c.slot_at.result c.slot_bytes.result _ c.slot_at.ensures c.slot_bytes.ensures long
    (c.write_all.ensures.writes h)
