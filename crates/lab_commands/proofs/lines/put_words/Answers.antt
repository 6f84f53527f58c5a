use Rattle.std.proofs.Common.{sym, subst}
use Rattle.lab_commands.specs.Document.{Prints}
use Rattle.lab_commands.specs.Lines.{line_words}
use Rattle.lab_commands.proofs.lines.put_words.Goals as goal

pub returns-in-NumberRange : goal.returns-in-NumberRange
unfolding line_words
returns-in-NumberRange g c =
    subst (λ l. Prints (g.W.Output.failed c.put_count.new.out) (g.W.Output.contents c.args.out.now) (g.W.Output.contents c.put_count.new.out) (line_words l) c.put_count.result) (sym c.in-NumberRange.is)
    c.put_count.ensures

pub returns-in-Repeated : goal.returns-in-Repeated
unfolding line_words
returns-in-Repeated g c = subst (λ l. Prints (g.W.Output.failed c.put_two.new.out) (g.W.Output.contents c.args.out.now) (g.W.Output.contents c.put_two.new.out) (line_words l) c.put_two.result) (sym c.in-Repeated.is) c.put_two.ensures

pub returns-in-NotFormatted : goal.returns-in-NotFormatted
unfolding line_words
returns-in-NotFormatted g c =
    subst (λ l. Prints (g.W.Output.failed c.put_count-in-NotFormatted.new.out) (g.W.Output.contents c.args.out.now) (g.W.Output.contents c.put_count-in-NotFormatted.new.out) (line_words l) c.put_count-in-NotFormatted.result) (sym c.in-NotFormatted.is)
    c.put_count-in-NotFormatted.ensures

pub returns-in-TableDamaged : goal.returns-in-TableDamaged
unfolding line_words
returns-in-TableDamaged g c =
    subst (λ l. Prints (g.W.Output.failed c.put_count-in-TableDamaged.new.out) (g.W.Output.contents c.args.out.now) (g.W.Output.contents c.put_count-in-TableDamaged.new.out) (line_words l) c.put_count-in-TableDamaged.result) (sym c.in-TableDamaged.is)
    c.put_count-in-TableDamaged.ensures

pub returns-in-LastSequence : goal.returns-in-LastSequence
unfolding line_words
returns-in-LastSequence g c =
    subst (λ l. Prints (g.W.Output.failed c.put_count-in-LastSequence.new.out) (g.W.Output.contents c.args.out.now) (g.W.Output.contents c.put_count-in-LastSequence.new.out) (line_words l) c.put_count-in-LastSequence.result) (sym c.in-LastSequence.is)
    c.put_count-in-LastSequence.ensures

pub returns-in-Lost : goal.returns-in-Lost
unfolding line_words
returns-in-Lost g c =
    subst (λ l. Prints (g.W.Output.failed c.put_count-in-Lost.new.out) (g.W.Output.contents c.args.out.now) (g.W.Output.contents c.put_count-in-Lost.new.out) (line_words l) c.put_count-in-Lost.result) (sym c.in-Lost.is)
    c.put_count-in-Lost.ensures

pub returns-in-Arranged : goal.returns-in-Arranged
unfolding line_words
returns-in-Arranged g c =
    subst (λ l. Prints (g.W.Output.failed c.put_count-in-Arranged.new.out) (g.W.Output.contents c.args.out.now) (g.W.Output.contents c.put_count-in-Arranged.new.out) (line_words l) c.put_count-in-Arranged.result) (sym c.in-Arranged.is)
    c.put_count-in-Arranged.ensures

pub returns-in-Differ : goal.returns-in-Differ
unfolding line_words
returns-in-Differ g c =
    subst (λ l. Prints (g.W.Output.failed c.put_count-in-Differ.new.out) (g.W.Output.contents c.args.out.now) (g.W.Output.contents c.put_count-in-Differ.new.out) (line_words l) c.put_count-in-Differ.result) (sym c.in-Differ.is)
    c.put_count-in-Differ.ensures

pub returns-in-Unsound : goal.returns-in-Unsound
unfolding line_words
returns-in-Unsound g c =
    subst (λ l. Prints (g.W.Output.failed c.put_count-in-Unsound.new.out) (g.W.Output.contents c.args.out.now) (g.W.Output.contents c.put_count-in-Unsound.new.out) (line_words l) c.put_count-in-Unsound.result) (sym c.in-Unsound.is)
    c.put_count-in-Unsound.ensures

pub returns-in-ArrangedFit : goal.returns-in-ArrangedFit
unfolding line_words
returns-in-ArrangedFit g c =
    subst (λ l. Prints (g.W.Output.failed c.put_arranged_fit.new.out) (g.W.Output.contents c.args.out.now) (g.W.Output.contents c.put_arranged_fit.new.out) (line_words l) c.put_arranged_fit.result) (sym c.in-ArrangedFit.is) c.put_arranged_fit.ensures

pub returns-in-Says : goal.returns-in-Says
unfolding line_words
returns-in-Says g c =
    subst (λ l. Prints (g.W.Output.failed c.put_says.new.out) (g.W.Output.contents c.args.out.now) (g.W.Output.contents c.put_says.new.out) (line_words l) c.put_says.result) (sym c.in-Says.is) c.put_says.ensures
