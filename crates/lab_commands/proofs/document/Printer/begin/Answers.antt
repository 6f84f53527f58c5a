use Rattle.std.proofs.Common.{sym, subst}
use Rattle.lab_commands.specs.Document.{Prints, head_text, report_words}
use Rattle.lab_commands.proofs.document.Printer.begin.Goals as goal

pub returns-in-Json : goal.returns-in-Json
unfolding head_text
returns-in-Json g c =
    subst (λ f. Prints (g.W.Output.failed c.put_head.new.out) (g.W.Output.contents c.args.out.now) (g.W.Output.contents c.put_head.new.out) (head_text f (report_words c.args.report)) c.put_head.result) (sym c.in-Json.is) c.put_head.ensures
