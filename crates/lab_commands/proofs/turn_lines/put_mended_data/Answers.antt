use Rattle.std.proofs.Common.{List, ℕ, refl, subst}
use Rattle.lab_commands.specs.Document.{Prints}
use Rattle.lab_commands.proofs.JsonLemmas.{mended_json}
use Rattle.lab_commands.proofs.turn_lines.put_mended_data.Goals as goal

pub returns : goal.returns
returns g c =
    subst
    (λ (t : List ℕ). Prints (g.W.Output.failed c.put_pieces.new.out) (g.W.Output.contents c.args.out.now)
    (g.W.Output.contents c.put_pieces.new.out) t c.put_pieces.result)
    (mended_json c.args.made c.args.row c.args.bit _ c.made_text.result.now _ refl c.made_text.ensures
    refl) c.put_pieces.ensures
