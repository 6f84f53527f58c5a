use Rattle.lab_commands.specs.Values.{counts_words, fit_rest_words}
use Rattle.lab_commands.proofs.JsonLemmas.{rest_parts}
use Rattle.lab_commands.proofs.PrintLemmas.{both_parts, first_part}
use Rattle.lab_commands.proofs.values.put_fit_rest.Goals as goal

pub returns-in_err-put_shaped : goal.returns-in_err-put_shaped
returns-in_err-put_shaped g c =
    first_part c.in_err-put_shaped.field-0.0 (g.W.Output.failed c.put_shaped.new.out) (g.W.Output.contents c.args.out.now) (g.W.Output.contents c.put_shaped.new.out) _ (counts_words c.args.fit) (fit_rest_words c.args.fit) c.from_residual.result
    (rest_parts c.args.fit) c.from_residual.ensures.1 c.in_err-put_shaped.ensures

pub returns : goal.returns
returns g c =
    both_parts (g.W.Output.failed c.put_counts.new.out) (g.W.Output.contents c.args.out.now) (g.W.Output.contents c.put_shaped.new.out) (g.W.Output.contents c.put_counts.new.out) _ (counts_words c.args.fit) (fit_rest_words c.args.fit) c.put_counts.result
    (rest_parts c.args.fit) c.in_ok-put_shaped.ensures c.put_counts.ensures
