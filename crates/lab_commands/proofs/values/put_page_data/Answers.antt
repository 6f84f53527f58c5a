use Rattle.std.proofs.Common.{List, ℕ, refl, subst}
use Rattle.lab_commands.specs.Document.{Prints}
use Rattle.lab_commands.proofs.JsonLemmas.{page_json}
use Rattle.lab_commands.proofs.values.put_page_data.Goals as goal

pub returns : goal.returns
returns g c =
    subst
    (λ (t : List ℕ). Prints (g.W.Output.failed c.put_pieces.new.out) (g.W.Output.contents c.args.out.now)
    (g.W.Output.contents c.put_pieces.new.out) t c.put_pieces.result)
    (page_json c.args.page c.args.block _ c.wrote_text.result.now _ c.from.result refl c.wrote_text.ensures
    refl c.from.ensures) c.put_pieces.ensures
