use Rattle.std.proofs.Common.{List, ℕ, refl, subst}
use Rattle.lab_commands.specs.Document.{Prints}
use Rattle.lab_commands.proofs.JsonLemmas.{missing_json}
use Rattle.lab_commands.proofs.values.put_missing.Goals as goal

pub returns : goal.returns
returns g c =
    subst
    (λ (t : List ℕ). Prints (g.W.Output.failed c.put_pieces.new.out) (g.W.Output.contents c.args.out.now)
    (g.W.Output.contents c.put_pieces.new.out) t c.put_pieces.result)
    (missing_json c.args.of c.args.number c.text.result.now _ c.text.ensures refl) c.put_pieces.ensures
