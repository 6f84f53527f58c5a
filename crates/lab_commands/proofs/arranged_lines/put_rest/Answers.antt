use Rattle.std.proofs.Common.{◌++◌}
use Rattle.std.specs.Prelude.{codes}
use Rattle.std.specs.Fmt.{decimal}
use Rattle.lab_commands.specs.Values.{arranged_rest, fit_rest_words}
use Rattle.lab_commands.proofs.ArrangedLemmas.{arranged_parts}
use Rattle.lab_commands.proofs.PrintLemmas.{both_parts, first_part}
use Rattle.lab_commands.proofs.arranged_lines.put_rest.Goals as goal

pub returns-in_err-put_pieces : goal.returns-in_err-put_pieces
returns-in_err-put_pieces g c =
    first_part c.in_err-put_pieces.field-0.0 (g.W.Output.failed c.put_pieces.new.out) (g.W.Output.contents c.args.out.now) (g.W.Output.contents c.put_pieces.new.out) (codes "\",\"blocks_told\":" ++ decimal c.args.fit.blocks_told) (fit_rest_words c.args.fit) (arranged_rest c.args.fit) c.from_residual.result
    (arranged_parts c.args.fit) c.from_residual.ensures.1 c.in_err-put_pieces.ensures

pub returns : goal.returns
returns g c =
    both_parts (g.W.Output.failed c.put_fit_rest.new.out) (g.W.Output.contents c.args.out.now) (g.W.Output.contents c.put_pieces.new.out) (g.W.Output.contents c.put_fit_rest.new.out) (codes "\",\"blocks_told\":" ++ decimal c.args.fit.blocks_told) (fit_rest_words c.args.fit) (arranged_rest c.args.fit) c.put_fit_rest.result
    (arranged_parts c.args.fit) c.in_ok-put_pieces.ensures c.put_fit_rest.ensures
