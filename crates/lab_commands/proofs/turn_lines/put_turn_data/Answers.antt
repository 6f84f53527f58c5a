use Rattle.std.proofs.Common.{sym, subst}
use Rattle.serde_json.specs.Written.{compact_text}
use Rattle.lab_commands.specs.Document.{Prints}
use Rattle.lab_commands.specs.Values.{turn_data}
use Rattle.lab_commands.proofs.turn_lines.put_turn_data.Goals as goal

pub returns-in-One : goal.returns-in-One
returns-in-One g c = subst (λ t. Prints (g.W.Output.failed c.put_mended_data.new.out) (g.W.Output.contents c.args.out.now) (g.W.Output.contents c.put_mended_data.new.out) (compact_text (turn_data c.args.row t)) c.put_mended_data.result) (sym c.in-One.is) c.put_mended_data.ensures

pub returns-in-Two : goal.returns-in-Two
returns-in-Two g c = subst (λ t. Prints (g.W.Output.failed c.put_pair_data.new.out) (g.W.Output.contents c.args.out.now) (g.W.Output.contents c.put_pair_data.new.out) (compact_text (turn_data c.args.row t)) c.put_pair_data.result) (sym c.in-Two.is) c.put_pair_data.ensures

pub returns-in-Tied : goal.returns-in-Tied
returns-in-Tied g c = subst (λ t. Prints (g.W.Output.failed c.put_tied_data.new.out) (g.W.Output.contents c.args.out.now) (g.W.Output.contents c.put_tied_data.new.out) (compact_text (turn_data c.args.row t)) c.put_tied_data.result) (sym c.in-Tied.is) c.put_tied_data.ensures

pub returns-in-Nothing : goal.returns-in-Nothing
returns-in-Nothing g c = subst
    (λ t. Prints (g.W.Output.failed c.put_tried_data.new.out) (g.W.Output.contents c.args.out.now) (g.W.Output.contents c.put_tried_data.new.out)
    (compact_text (turn_data c.args.row t)) c.put_tried_data.result) (sym c.in-Nothing.is) c.put_tried_data.ensures
