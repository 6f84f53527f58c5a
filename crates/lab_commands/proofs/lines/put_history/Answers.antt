use Rattle.std.proofs.Common.{ℕ, subst}
use Rattle.lab_commands.specs.Document.{Prints}
use Rattle.lab_commands.specs.Lines.{history_words}
use Rattle.lab_commands.proofs.lines.put_history.Goals as goal

pub returns : goal.returns
returns g c =
    subst (λ (n : ℕ). Prints (g.W.Output.failed c.put_both_between.new.out) (g.W.Output.contents c.args.out.now) (g.W.Output.contents c.put_both_between.new.out) (history_words c.args.pages n) c.put_both_between.result) c.from.ensures c.put_both_between.ensures
