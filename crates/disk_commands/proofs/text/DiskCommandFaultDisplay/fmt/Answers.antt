use Rattle.std.proofs.Common.{sym, subst}
use Rattle.std.specs.Fmt.{HasWritten}
use Rattle.disk_commands.specs.Text.{disk_fault_line}
use Rattle.disk_commands.proofs.text.DiskCommandFaultDisplay.fmt.Goals as goal

pub returns-in-Open-clause-writes : goal.returns-in-Open-clause-writes
unfolding disk_fault_line
returns-in-Open-clause-writes g c = λ plain ok.
    subst (λ fault. HasWritten g.W.Write.write_str_gives c.args.f.now (disk_fault_line fault) c.write-in-Open.new.self) (sym c.in-Open.is) (c.write-in-Open.ensures.writes plain ok)
