use Rattle.lab_commands.specs.Lines.{counted_words, fit_words}
use Rattle.lab_commands.proofs.PieceLemmas.{fit_parts}
use Rattle.lab_commands.proofs.PrintLemmas.{both_parts, first_part}
use Rattle.lab_commands.proofs.lines.put_fit.Goals as goal

pub returns-in_err-put_shaped : goal.returns-in_err-put_shaped
returns-in_err-put_shaped g c =
    first_part c.in_err-put_shaped.field-0.0 (g.W.Output.failed c.put_shaped.new.out) (g.W.Output.contents c.args.out.now) (g.W.Output.contents c.put_shaped.new.out) _ (counted_words c.args.fit) (fit_words c.args.fit) c.from_residual.result
    (fit_parts c.args.fit) c.from_residual.ensures.1 c.in_err-put_shaped.ensures

pub returns : goal.returns
returns g c =
    both_parts (g.W.Output.failed c.put_counted.new.out) (g.W.Output.contents c.args.out.now) (g.W.Output.contents c.put_shaped.new.out) (g.W.Output.contents c.put_counted.new.out) _ (counted_words c.args.fit) (fit_words c.args.fit) c.put_counted.result
    (fit_parts c.args.fit) c.in_ok-put_shaped.ensures c.put_counted.ensures
