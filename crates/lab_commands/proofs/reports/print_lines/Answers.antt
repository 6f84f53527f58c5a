use Rattle.std.proofs.Common.{Bool, List, subst}
use Rattle.std.specs.Io.KnownBytes.{Appends}
use Rattle.lab_dump.specs.declared.held.KeyState.{KeyState}
use Rattle.lab_commands.specs.Document.{StopsPrinting, if_text}
use Rattle.lab_commands.specs.Reports.{keys_text, survey_lines}
use Rattle.lab_commands.proofs.PrintLemmas.{failed, prints_after, stops_after, stops_more}
use Rattle.lab_commands.proofs.reports.print_lines.Goals as goal

pub returns-in_err-line : goal.returns-in_err-line
unfolding survey_lines
returns-in_err-line g c =
    failed c.in_err-line.field-0.0 c.from_residual.result (g.W.Output.failed c.line.new.out) _ _ _ c.from_residual.ensures.1
    (stops_more c.in_err-line.field-0.0 (g.W.Output.failed c.line.new.out) _ _ _ _
    (subst
    (λ l. StopsPrinting c.in_err-line.field-0.0 (g.W.Output.failed c.line.new.out) (g.W.Output.contents c.args.out.now)
    (g.W.Output.contents c.line.new.out) (if_text c.args.printer.form l)) c.rows_line.ensures c.in_err-line.ensures))

pub returns-in_err-print_counts : goal.returns-in_err-print_counts
unfolding survey_lines
returns-in_err-print_counts g c =
    let rows = subst (λ l. Appends (g.W.Output.contents c.args.out.now) (g.W.Output.contents c.line.new.out) (if_text c.args.printer.form l)) c.rows_line.ensures c.in_ok-line.ensures in
    failed _ c.from_residual-in_err-print_counts.result _ _ _ _ c.from_residual-in_err-print_counts.ensures.1
    (stops_after _ _ _ _ _ _ _ rows (stops_more _ _ _ _ _ _ c.in_err-print_counts.ensures))

pub returns-in_err-print_keys : goal.returns-in_err-print_keys
unfolding survey_lines
returns-in_err-print_keys g c =
    let o = g.W.Output.contents in
    let form = c.args.printer.form in
    let geo = c.args.geometry.now in
    let rows = subst (λ l. Appends (o c.args.out.now) (o c.line.new.out) (if_text form l)) c.rows_line.ensures c.in_ok-line.ensures in
    let keys = subst (λ (fs : List Bool). StopsPrinting c.in_err-print_keys.field-0.0 (g.W.Output.failed c.print_keys.new.out) (o c.print_counts.new.out) (o c.print_keys.new.out) (keys_text form geo c.args.survey.now.keys.items fs)) c.deref-2.ensures.value
    (subst (λ (ss : List KeyState). StopsPrinting c.in_err-print_keys.field-0.0 (g.W.Output.failed c.print_keys.new.out) (o c.print_counts.new.out) (o c.print_keys.new.out) (keys_text form geo ss c.deref-2.result.now)) c.deref.ensures.value c.in_err-print_keys.ensures) in
    failed c.in_err-print_keys.field-0.0 c.from_residual-in_err-print_keys.result (g.W.Output.failed c.print_keys.new.out) _ _ _ c.from_residual-in_err-print_keys.ensures.1
    (stops_after c.in_err-print_keys.field-0.0 (g.W.Output.failed c.print_keys.new.out) _ _ _ _ _ rows
    (stops_after c.in_err-print_keys.field-0.0 (g.W.Output.failed c.print_keys.new.out) _ _ _ _ _ c.in_ok-print_counts.ensures
    (stops_more c.in_err-print_keys.field-0.0 (g.W.Output.failed c.print_keys.new.out) _ _ _ _ keys)))

pub returns-in_err-print_blocks : goal.returns-in_err-print_blocks
unfolding survey_lines
returns-in_err-print_blocks g c =
    let o = g.W.Output.contents in
    let form = c.args.printer.form in
    let geo = c.args.geometry.now in
    let rows = subst (λ l. Appends (o c.args.out.now) (o c.line.new.out) (if_text form l)) c.rows_line.ensures c.in_ok-line.ensures in
    let keys = subst (λ (fs : List Bool). Appends (o c.print_counts.new.out) (o c.print_keys.new.out) (keys_text form geo c.args.survey.now.keys.items fs)) c.deref-2.ensures.value
    (subst (λ (ss : List KeyState). Appends (o c.print_counts.new.out) (o c.print_keys.new.out) (keys_text form geo ss c.deref-2.result.now)) c.deref.ensures.value c.in_ok-print_keys.ensures) in
    failed _ c.from_residual-in_err-print_blocks.result _ _ _ _ c.from_residual-in_err-print_blocks.ensures.1
    (stops_after _ _ _ _ _ _ _ rows (stops_after _ _ _ _ _ _ _ c.in_ok-print_counts.ensures (stops_after _ _ _ _ _ _ _ keys (stops_more _ _ _ _ _ _ c.in_err-print_blocks.ensures))))

pub returns : goal.returns
unfolding survey_lines
returns g c =
    let o = g.W.Output.contents in
    let form = c.args.printer.form in
    let geo = c.args.geometry.now in
    let r = c.print_ending.result in
    let rows = subst (λ l. Appends (o c.args.out.now) (o c.line.new.out) (if_text form l)) c.rows_line.ensures c.in_ok-line.ensures in
    let keys = subst (λ (fs : List Bool). Appends (o c.print_counts.new.out) (o c.print_keys.new.out) (keys_text form geo c.args.survey.now.keys.items fs)) c.deref-2.ensures.value
    (subst (λ (ss : List KeyState). Appends (o c.print_counts.new.out) (o c.print_keys.new.out) (keys_text form geo ss c.deref-2.result.now)) c.deref.ensures.value c.in_ok-print_keys.ensures) in
    prints_after _ _ _ _ _ _ r rows (prints_after _ _ _ _ _ _ r c.in_ok-print_counts.ensures (prints_after _ _ _ _ _ _ r keys (prints_after _ _ _ _ _ _ r c.in_ok-print_blocks.ensures c.print_ending.ensures)))
