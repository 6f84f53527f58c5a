use Rattle.std.proofs.Common.{◌++◌, List, ℕ, Option, length, subst}
use Rattle.std.specs.Prelude.{codes}
use Rattle.lab_mend.specs.Repairing.{mended_count}
use Rattle.lab_commands.specs.declared.lines.Line.{Line}
use Rattle.lab_commands.specs.declared.lines.Line.TheVariants as line
use Rattle.lab_commands.specs.Document.{Prints, head_text, if_text, line_text, tail_text, text_below}
use Rattle.lab_commands.specs.Reports.{mend_at}
use Rattle.lab_commands.proofs.reports.print_repaired.Goals as goal

pub returns : goal.returns
returns g c =
    let o = g.W.Output.contents in
    let broke = g.W.Output.failed c.print_parts.new.out in
    let form = c.args.printer.form in
    let mends = c.args.mends.now in
    let front = text_below form (mend_at mends) (length mends) in
    subst (λ (l : Option Line). Prints broke (o c.args.out.now) (o c.print_parts.new.out) (head_text form (codes "repair") ++ (front ++ (if_text form l ++ (line_text form (line.MendedCount (mended_count mends)) ++ tail_text form)))) c.print_parts.result) c.tries_line.ensures
    (subst (λ (l : Line). Prints broke (o c.args.out.now) (o c.print_parts.new.out) (head_text form (codes "repair") ++ (front ++ (if_text form c.tries_line.result ++ (line_text form l ++ tail_text form)))) c.print_parts.result) c.mended_line.ensures c.print_parts.ensures)
