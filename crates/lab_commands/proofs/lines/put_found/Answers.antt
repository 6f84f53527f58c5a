use Rattle.std.proofs.Common.{List, ℕ, subst}
use Rattle.lab_commands.specs.Document.{Prints}
use Rattle.lab_commands.specs.Lines.{first_words, fit_words}
use Rattle.lab_commands.proofs.PieceLemmas.{coded_found}
use Rattle.lab_commands.proofs.PrintLemmas.{failed, prints_after, stops_more}
use Rattle.lab_commands.proofs.lines.put_found.Goals as goal

pub returns-in_err-put_fit : goal.returns-in_err-put_fit
returns-in_err-put_fit g c =
    let a = g.W.Output.contents c.args.out.now in
    let b = g.W.Output.contents c.put_fit.new.out in
    let broke = g.W.Output.failed c.put_fit.new.out in
    let fit = c.args.found.fit in
    subst (λ (t : List ℕ). Prints broke a b t c.from_residual.result) (coded_found c.args.found c.if-found.true)
    (failed c.in_err-put_fit.field-0.0 c.from_residual.result broke a b _ c.from_residual.ensures.1 (stops_more c.in_err-put_fit.field-0.0 broke a b (fit_words fit) (first_words fit) c.in_err-put_fit.ensures))

pub returns-in_ok-put_fit : goal.returns-in_ok-put_fit
returns-in_ok-put_fit g c =
    let a = g.W.Output.contents c.args.out.now in
    let b = g.W.Output.contents c.put_fit.new.out in
    let d = g.W.Output.contents c.put_first.new.out in
    let broke = g.W.Output.failed c.put_first.new.out in
    let fit = c.args.found.fit in
    subst (λ (t : List ℕ). Prints broke a d t c.put_first.result) (coded_found c.args.found c.if-found.true)
    (prints_after broke a b d (fit_words fit) (first_words fit) c.put_first.result c.in_ok-put_fit.ensures c.put_first.ensures)
