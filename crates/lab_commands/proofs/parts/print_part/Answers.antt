use Rattle.std.proofs.Common.{subst, sym}
use Rattle.lab_commands.specs.declared.parts.Part.{Part}
use Rattle.lab_commands.specs.Document.{Prints}
use Rattle.lab_commands.specs.Pieces.{part_text}
use Rattle.lab_commands.proofs.parts.print_part.Goals as goal

pub returns-in-End : goal.returns-in-End
returns-in-End g c =
    subst (λ (p : Part). Prints (g.W.Output.failed c.end.new.out) (g.W.Output.contents c.args.out.now) (g.W.Output.contents c.end.new.out) (part_text c.args.printer.form p) c.end.result) (sym c.in-End.is) c.end.ensures
