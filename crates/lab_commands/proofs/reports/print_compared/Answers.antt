use Rattle.std.proofs.Common.{Bool, List, subst}
use Rattle.std.specs.Io.KnownBytes.{Appends}
use Rattle.lab_commands.specs.Reports.{losses_text}
use Rattle.lab_commands.specs.Document.{StopsPrinting}
use Rattle.lab_commands.proofs.PrintLemmas.{failed, stops_after, stops_more, prints_after}
use Rattle.lab_commands.proofs.reports.print_compared.Goals as goal

pub returns-in_err-begin : goal.returns-in_err-begin
returns-in_err-begin g c = failed _ c.from_residual.result _ _ _ _ c.from_residual.ensures.1 (stops_more _ _ _ _ _ _ c.in_err-begin.ensures)

pub returns-in_err-print_losses : goal.returns-in_err-print_losses
returns-in_err-print_losses g c = failed _ c.from_residual-in_err-print_losses.result _ _ _ _ c.from_residual-in_err-print_losses.ensures.1
    (stops_after c.in_err-print_losses.field-0.0 (g.W.Output.failed c.print_losses.new.out) _ _ _ _ _ c.in_ok-begin.ensures
    (stops_more c.in_err-print_losses.field-0.0 (g.W.Output.failed c.print_losses.new.out) _ _ _ _
    (subst
    (λ (ls : List Bool). StopsPrinting c.in_err-print_losses.field-0.0 (g.W.Output.failed c.print_losses.new.out)
    (g.W.Output.contents c.begin.new.out) (g.W.Output.contents c.print_losses.new.out)
    (losses_text c.args.printer.form c.args.geometry.now ls)) c.deref.ensures.value c.in_err-print_losses.ensures)))

pub returns-in_err-print_left : goal.returns-in_err-print_left
returns-in_err-print_left g c = failed _ c.from_residual-in_err-print_left.result _ _ _ _ c.from_residual-in_err-print_left.ensures.1
    (stops_after _ _ _ _ _ _ _ c.in_ok-begin.ensures
    (stops_after _ _ _ _ _ _ _
    (subst
    (λ (ls : List Bool). Appends (g.W.Output.contents c.begin.new.out) (g.W.Output.contents c.print_losses.new.out)
    (losses_text c.args.printer.form c.args.geometry.now ls)) c.deref.ensures.value c.in_ok-print_losses.ensures)
    (stops_more _ _ _ _ _ _ c.in_err-print_left.ensures)))

pub returns : goal.returns
returns g c = prints_after _ _ _ _ _ _ c.end.result c.in_ok-begin.ensures
    (prints_after _ _ _ _ _ _ c.end.result
    (subst
    (λ (ls : List Bool). Appends (g.W.Output.contents c.begin.new.out) (g.W.Output.contents c.print_losses.new.out)
    (losses_text c.args.printer.form c.args.geometry.now ls)) c.deref.ensures.value c.in_ok-print_losses.ensures)
    (prints_after _ _ _ _ _ _ c.end.result c.in_ok-print_left.ensures c.end.ensures))
