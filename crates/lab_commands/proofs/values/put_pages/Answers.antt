use Rattle.std.proofs.Common.{List, ℕ, refl, subst}
use Rattle.lab_commands.specs.Document.{Prints}
use Rattle.lab_commands.proofs.JsonLemmas.{pages_json}
use Rattle.lab_commands.proofs.values.put_pages.Goals as goal

pub returns : goal.returns
returns g c =
    subst
    (λ (t : List ℕ). Prints (g.W.Output.failed c.put_pieces.new.out) (g.W.Output.contents c.args.out.now)
    (g.W.Output.contents c.put_pieces.new.out) t c.put_pieces.result)
    (pages_json c.args.sort c.args.pages _ c.text.result.now refl c.text.ensures) c.put_pieces.ensures
