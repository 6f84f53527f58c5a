use Rattle.std.proofs.Common.{List, ℕ, refl, subst}
use Rattle.lab_commands.specs.Document.{Prints}
use Rattle.lab_commands.proofs.JsonLemmas.{block_json}
use Rattle.lab_commands.proofs.values.put_block_data.Goals as goal

pub returns : goal.returns
returns g c =
    subst
    (λ (t : List ℕ). Prints (g.W.Output.failed c.put_pieces.new.out) (g.W.Output.contents c.args.out.now)
    (g.W.Output.contents c.put_pieces.new.out) t c.put_pieces.result)
    (block_json c.args.block c.args.state c.args.unsound _ c.class_text.result.now c.from.result c.from-2.result _
    _ refl c.class_text.ensures c.from.ensures c.from-2.ensures refl refl)
    c.put_pieces.ensures
