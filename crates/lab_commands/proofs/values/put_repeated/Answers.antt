use Rattle.std.proofs.Common.{List, ℕ, subst}
use Rattle.lab_commands.specs.Document.{Prints}
use Rattle.lab_commands.proofs.JsonLemmas.{repeated_json}
use Rattle.lab_commands.proofs.values.put_repeated.Goals as goal

pub returns : goal.returns
returns g c =
    subst
    (λ (t : List ℕ). Prints (g.W.Output.failed c.put_counts_between.new.out) (g.W.Output.contents c.args.out.now)
    (g.W.Output.contents c.put_counts_between.new.out) t c.put_counts_between.result)
    (repeated_json c.args.first c.args.second) c.put_counts_between.ensures
