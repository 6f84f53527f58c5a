use Rattle.std.proofs.Common.{List, ℕ, subst}
use Rattle.lab_commands.specs.Document.{Prints}
use Rattle.lab_commands.proofs.PieceLemmas.{age_older, age_whole}
use Rattle.lab_commands.proofs.lines.put_age.Goals as goal

pub returns-then-older-eq0 : goal.returns-then-older-eq0
returns-then-older-eq0 g c =
    subst
    (λ (t : List ℕ). Prints (g.W.Output.failed c.put_pieces.new.out) (g.W.Output.contents c.args.out.now)
    (g.W.Output.contents c.put_pieces.new.out) t c.put_pieces.result)
    (age_whole c.args.doubts c.from-unsound.result c.most_older-older.result c.whole_text-whole.result.now c.moved_text-moved.result.now
    c.from-unsound.ensures c.most_older-older.ensures c.if-older-eq0.true c.whole_text-whole.ensures c.moved_text-moved.ensures)
    c.put_pieces.ensures

pub returns : goal.returns
returns g c =
    subst
    (λ (t : List ℕ). Prints (g.W.Output.failed c.put_pieces-2.new.out) (g.W.Output.contents c.args.out.now)
    (g.W.Output.contents c.put_pieces-2.new.out) t c.put_pieces-2.result)
    (age_older c.args.doubts c.from-unsound.result c.most_older-older.result c.moved_text-moved.result.now c.from-unsound.ensures
    c.most_older-older.ensures c.if-older-eq0.false c.moved_text-moved.ensures) c.put_pieces-2.ensures
