use Rattle.std.proofs.Common.{List, ℕ, subst}
use Rattle.lab_commands.specs.Document.{Prints}
use Rattle.lab_commands.proofs.JsonLemmas.{age_json}
use Rattle.lab_commands.proofs.values.put_age.Goals as goal

pub returns : goal.returns
returns g c =
    subst
    (λ (t : List ℕ). Prints (g.W.Output.failed c.put_both_between.new.out) (g.W.Output.contents c.args.out.now)
    (g.W.Output.contents c.put_both_between.new.out) t c.put_both_between.result)
    (age_json c.args.doubts c.most_older.result c.from.result c.most_older.ensures c.from.ensures) c.put_both_between.ensures
