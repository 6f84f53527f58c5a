use Rattle.std.proofs.Common.{take}
use Rattle.std.specs.Io.KnownBytes.{Appends}
use Rattle.lab_commands.specs.Pieces.{parts_text}
use Rattle.lab_commands.proofs.parts.print_parts.Given as goal

abbrev pub invariant-loop-place : goal.invariant-loop-place
invariant-loop-place g l = Appends (g.W.Output.contents l.fn.out) (g.W.Output.contents l.out) (parts_text l.printer.form (take l.place l.parts))
