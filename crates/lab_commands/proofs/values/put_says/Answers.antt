use Rattle.std.proofs.Common.{List, ℕ, refl, subst}
use Rattle.lab_commands.specs.Document.{Prints}
use Rattle.lab_commands.proofs.JsonLemmas.{said_json}
use Rattle.lab_commands.proofs.values.put_says.Goals as goal

pub returns : goal.returns
returns g c =
    subst
    (λ (t : List ℕ). Prints (g.W.Output.failed c.put_pieces.new.out) (g.W.Output.contents c.args.out.now)
    (g.W.Output.contents c.put_pieces.new.out) t c.put_pieces.result)
    (said_json c.args.page c.kind_text.result.now c.truth_text.result.now _ _ c.kind_text.ensures c.truth_text.ensures
    refl refl) c.put_pieces.ensures
