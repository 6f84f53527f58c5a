use Rattle.std.proofs.Common.{subst, sym}
use Rattle.request_stream.specs.Frames.{SendsLine}
use Rattle.disk_commands.specs.Text.{disk_fault_line, told_disk_line}
use Rattle.disk_commands.proofs.text.send_line.Goals as goal

pub returns-in-OutOfMemory : goal.returns-in-OutOfMemory
unfolding disk_fault_line
returns-in-OutOfMemory g c =
    subst (λ fault. SendsLine (g.E.Write.contents c.args.err.now) (g.E.Write.contents c.send.new.writer) (told_disk_line fault) c.send.result) (sym c.in-OutOfMemory.is) c.send.ensures
