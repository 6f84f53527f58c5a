use Rattle.std.proofs.Common.{List, ℕ, subst}
use Rattle.lab_commands.specs.Document.{Prints}
use Rattle.lab_commands.proofs.JsonLemmas.{head_json}
use Rattle.lab_commands.proofs.document.put_head.Goals as goal

pub returns : goal.returns
returns g c =
    subst (λ (t : List ℕ). Prints (g.W.Output.failed c.put_pieces.new.out) (g.W.Output.contents c.args.out.now) (g.W.Output.contents c.put_pieces.new.out) t c.put_pieces.result)
    (head_json c.args.report c.text.result.now c.text.ensures) c.put_pieces.ensures
