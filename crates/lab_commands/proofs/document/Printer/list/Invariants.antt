use Rattle.std.specs.Io.KnownBytes.{Appends}
use Rattle.lab_commands.specs.Reports.{line_at}
use Rattle.lab_commands.specs.Document.{text_below}
use Rattle.lab_commands.proofs.document.Printer.list.Given as goal

abbrev pub invariant-loop-number : goal.invariant-loop-number
invariant-loop-number g l = Appends (g.W.Output.contents l.fn.out) (g.W.Output.contents l.out) (text_below l.self.form (line_at l.list) l.number)
