use Rattle.std.proofs.Common.{List, ℕ, refl, subst}
use Rattle.lab_commands.specs.Document.{Prints}
use Rattle.lab_commands.proofs.PieceLemmas.{shaped_pieces}
use Rattle.lab_commands.proofs.lines.put_shaped.Goals as goal

pub returns : goal.returns
returns g c =
    subst (λ (t : List ℕ). Prints (g.W.Output.failed c.put_pieces.new.out) (g.W.Output.contents c.args.out.now) (g.W.Output.contents c.put_pieces.new.out) t c.put_pieces.result)
    (shaped_pieces c.args.fit c.args.before.now c.args.behind.now _ _ _ _ _ refl refl refl refl refl) c.put_pieces.ensures
