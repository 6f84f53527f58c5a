use Rattle.serde_json.specs.Written.{compact_text}
use Rattle.lab_commands.specs.Values.{found_data, fit_rest_words}
use Rattle.lab_commands.proofs.JsonLemmas.{fit_json}
use Rattle.lab_commands.proofs.PrintLemmas.{both_parts, first_part}
use Rattle.lab_commands.proofs.values.put_fit.Goals as goal

pub returns-in_err-put_pieces : goal.returns-in_err-put_pieces
returns-in_err-put_pieces g c =
    first_part c.in_err-put_pieces.field-0.0 (g.W.Output.failed c.put_pieces.new.out) (g.W.Output.contents c.args.out.now) (g.W.Output.contents c.put_pieces.new.out) _ (fit_rest_words c.args.found.fit) (compact_text (found_data c.args.found)) c.from_residual.result
    (fit_json c.args.found c.front_text.result.now c.front_text.ensures) c.from_residual.ensures.1 c.in_err-put_pieces.ensures

pub returns : goal.returns
returns g c =
    both_parts (g.W.Output.failed c.put_fit_rest.new.out) (g.W.Output.contents c.args.out.now) (g.W.Output.contents c.put_pieces.new.out) (g.W.Output.contents c.put_fit_rest.new.out) _ (fit_rest_words c.args.found.fit) (compact_text (found_data c.args.found)) c.put_fit_rest.result
    (fit_json c.args.found c.front_text.result.now c.front_text.ensures) c.in_ok-put_pieces.ensures c.put_fit_rest.ensures
