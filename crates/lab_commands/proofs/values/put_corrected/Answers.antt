use Rattle.std.proofs.Common.{List, ℕ, refl, subst}
use Rattle.lab_commands.specs.Document.{Prints}
use Rattle.lab_commands.proofs.JsonLemmas.{corrected_json}
use Rattle.lab_commands.proofs.values.put_corrected.Goals as goal

pub returns : goal.returns
returns g c =
    subst (λ (t : List ℕ). Prints (g.W.Output.failed c.put_pieces.new.out) (g.W.Output.contents c.args.out.now) (g.W.Output.contents c.put_pieces.new.out) t c.put_pieces.result) (corrected_json c.args.bits c.args.rows c.args.lost _ refl) c.put_pieces.ensures
