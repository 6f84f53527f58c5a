use Rattle.std.proofs.Common.{sym, subst}
use Rattle.serde_json.specs.Written.{compact_text}
use Rattle.lab_commands.specs.Document.{Prints}
use Rattle.lab_commands.specs.Values.{tried_data}
use Rattle.lab_commands.proofs.values.put_tried.Goals as goal

pub returns-in-Taken : goal.returns-in-Taken
returns-in-Taken g c =
    subst (λ t. Prints (g.W.Output.failed c.put_turned.new.out) (g.W.Output.contents c.args.out.now) (g.W.Output.contents c.put_turned.new.out) (compact_text (tried_data c.args.row t)) c.put_turned.result) (sym c.in-Taken.is) c.put_turned.ensures

pub returns-in-Tied : goal.returns-in-Tied
returns-in-Tied g c =
    subst (λ t. Prints (g.W.Output.failed c.put_tied_row.new.out) (g.W.Output.contents c.args.out.now) (g.W.Output.contents c.put_tied_row.new.out) (compact_text (tried_data c.args.row t)) c.put_tied_row.result) (sym c.in-Tied.is) c.put_tied_row.ensures

pub returns-in-Nothing : goal.returns-in-Nothing
returns-in-Nothing g c =
    subst (λ t. Prints (g.W.Output.failed c.put_nothing.new.out) (g.W.Output.contents c.args.out.now) (g.W.Output.contents c.put_nothing.new.out) (compact_text (tried_data c.args.row t)) c.put_nothing.result) (sym c.in-Nothing.is) c.put_nothing.ensures
