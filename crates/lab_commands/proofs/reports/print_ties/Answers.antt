use Rattle.std.proofs.Common.{ℕ, subst}
use Rattle.std.specs.Prelude.{◌++◌, map}
use Rattle.lab_dump.specs.Held.{damaged_of, shown_in}
use Rattle.lab_commands.specs.Document.{Prints, if_text, text_below}
use Rattle.lab_commands.specs.Lines.{damaged_line}
use Rattle.lab_commands.specs.Reports.{tie_at}
use Rattle.lab_commands.proofs.PrintLemmas.{failed, stops_more, prints_after}
use Rattle.lab_commands.proofs.reports.print_ties.Goals as goal

pub returns-in_err-list : goal.returns-in_err-list
returns-in_err-list g c =
    subst (λ (n : ℕ). Prints (g.W.Output.failed c.list.new.out) (g.W.Output.contents c.args.out.now) (g.W.Output.contents c.list.new.out)
    (text_below c.args.printer.form (tie_at (map shown_in c.args.held.now)) n ++ if_text c.args.printer.form (damaged_line (damaged_of (map shown_in c.args.held.now)))) c.from_residual.result)
    c.sectors-count.ensures
    (failed _ c.from_residual.result _ _ _ _ c.from_residual.ensures.1 (stops_more _ _ _ _ _ _ c.in_err-list.ensures))

pub returns : goal.returns
returns g c =
    subst (λ (n : ℕ). Prints (g.W.Output.failed c.line.new.out) (g.W.Output.contents c.args.out.now) (g.W.Output.contents c.line.new.out)
    (text_below c.args.printer.form (tie_at (map shown_in c.args.held.now)) n ++ if_text c.args.printer.form (damaged_line (damaged_of (map shown_in c.args.held.now)))) c.line.result)
    c.sectors-count.ensures
    (subst (λ (n : ℕ). Prints (g.W.Output.failed c.line.new.out) (g.W.Output.contents c.args.out.now) (g.W.Output.contents c.line.new.out)
    (text_below c.args.printer.form (tie_at (map shown_in c.args.held.now)) c.sectors-count.result ++ if_text c.args.printer.form (damaged_line n)) c.line.result)
    c.damaged_count.ensures
    (prints_after _ _ _ _ _ _ c.line.result c.in_ok-list.ensures
    (subst (λ l. Prints (g.W.Output.failed c.line.new.out) (g.W.Output.contents c.list.new.out) (g.W.Output.contents c.line.new.out) (if_text c.args.printer.form l) c.line.result) c.damaged_line.ensures c.line.ensures)))
