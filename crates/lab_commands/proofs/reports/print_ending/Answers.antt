use Rattle.std.proofs.Common.{List, length, subst}
use Rattle.std.specs.Io.KnownBytes.{Appends}
use Rattle.lab_dump.specs.declared.said.SaidPage.{SaidPage}
use Rattle.lab_commands.specs.Document.{StopsPrinting, text_below}
use Rattle.lab_commands.specs.Reports.{said_at}
use Rattle.lab_commands.proofs.PrintLemmas.{failed, prints_after, stops_more}
use Rattle.lab_commands.proofs.reports.print_ending.Goals as goal

pub returns-in_err-list : goal.returns-in_err-list
returns-in_err-list g c =
    let o = g.W.Output.contents in
    let stops = subst (λ (ps : List SaidPage). StopsPrinting c.in_err-list.field-0.0 (g.W.Output.failed c.list.new.out) (o c.args.out.now) (o c.list.new.out) (text_below c.args.printer.form (said_at ps) (length ps))) c.deref.ensures.value c.in_err-list.ensures in
    failed _ c.from_residual.result _ _ _ _ c.from_residual.ensures.1 (stops_more _ _ _ _ _ _ stops)

pub returns : goal.returns
returns g c =
    let o = g.W.Output.contents in
    let listed = subst (λ (ps : List SaidPage). Appends (o c.args.out.now) (o c.list.new.out) (text_below c.args.printer.form (said_at ps) (length ps))) c.deref.ensures.value c.in_ok-list.ensures in
    prints_after _ _ _ _ _ _ c.print_age.result listed c.print_age.ensures
