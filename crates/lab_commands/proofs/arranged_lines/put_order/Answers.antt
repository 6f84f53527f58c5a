use Rattle.std.proofs.Common.{List, ℕ, subst}
use Rattle.lab_commands.specs.Document.{Prints}
use Rattle.lab_commands.proofs.ArrangedLemmas.{order_pieces}
use Rattle.lab_commands.proofs.arranged_lines.put_order.Goals as goal

pub returns : goal.returns
returns g c =
    subst (λ (t : List ℕ). Prints (g.W.Output.failed c.put_pieces.new.out) (g.W.Output.contents c.args.out.now) (g.W.Output.contents c.put_pieces.new.out) t c.put_pieces.result)
    (order_pieces c.args.before c.args.arrangement.now c.behind_spares-spares.result c.behind_first-first.result c.behind_swapped-swapped.result c.behind_inverted-inverted.result
    c.spares_text.result.now c.flag_text.result.now c.flag_text-2.result.now c.flag_text-3.result.now c.flag_text-4.result.now
    c.behind_spares-spares.ensures c.behind_first-first.ensures c.behind_swapped-swapped.ensures c.behind_inverted-inverted.ensures
    c.spares_text.ensures c.flag_text.ensures c.flag_text-2.ensures c.flag_text-3.ensures c.flag_text-4.ensures) c.put_pieces.ensures
