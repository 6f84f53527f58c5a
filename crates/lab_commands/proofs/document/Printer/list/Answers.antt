use Rattle.std.proofs.Common.{subst, arith}
use Rattle.std.specs.Io.KnownBytes.{Appends}
use Rattle.lab_commands.specs.Reports.{line_at, line_count}
use Rattle.lab_commands.specs.Document.{StopsPrinting, if_text, text_below}
use Rattle.lab_commands.proofs.PrintLemmas.{failed, none_below, one_more, stops_below}
use Rattle.lab_commands.proofs.document.Printer.list.Goals as goal

pub loop-number-init : goal.loop-number-init
loop-number-init g c = none_below c.args.self.form (line_at c.args.list.now) (g.W.Output.contents c.args.out.now)

pub loop-number-preserved : goal.loop-number-preserved
loop-number-preserved g c =
    let a = g.W.Output.contents c.args.out.now in
    let b = g.W.Output.contents c.loop-number.out in
    let d = g.W.Output.contents c.line-in-loop-number.new.out in
    let form = c.args.self.form in
    one_more form (line_at c.args.list.now) c.loop-number.number a b d c.loop-number.invariant (subst (λ l. Appends b d (if_text form l)) c.line.ensures c.in_ok-line.ensures)

pub returns-in_err-line : goal.returns-in_err-line
returns-in_err-line g c =
    let a = g.W.Output.contents c.args.out.now in
    let b = g.W.Output.contents c.loop-number.out in
    let d = g.W.Output.contents c.line-in-loop-number.new.out in
    let form = c.args.self.form in
    let e = c.in_err-line.field-0.0 in
    let broke = g.W.Output.failed c.line-in-loop-number.new.out in
    failed e c.from_residual.result broke a d _ c.from_residual.ensures.1
    (stops_below e broke form (line_at c.args.list.now) c.loop-number.number (line_count c.args.list.now) a b d (omega arith) c.loop-number.invariant
    (subst (λ l. StopsPrinting e broke b d (if_text form l)) c.line.ensures c.in_err-line.ensures))

pub returns : goal.returns
returns g c =
    let form = c.args.self.form in
    subst (λ n. Appends (g.W.Output.contents c.args.out.now) (g.W.Output.contents c.loop-number.out) (text_below form (line_at c.args.list.now) n)) (omega arith) c.loop-number.invariant
