use Rattle.lab_commands.proofs.PrintLemmas.{failed, stops_after, stops_more, prints_after}
use Rattle.lab_commands.proofs.reports.print_array.Goals as goal

pub returns-in_err-begin : goal.returns-in_err-begin
returns-in_err-begin g c = failed _ c.from_residual.result _ _ _ _ c.from_residual.ensures.1 (stops_more _ _ _ _ _ _ c.in_err-begin.ensures)

pub returns-in_err-print_ties : goal.returns-in_err-print_ties
returns-in_err-print_ties g c = failed _ c.from_residual-in_err-print_ties.result _ _ _ _ c.from_residual-in_err-print_ties.ensures.1 (stops_after _ _ _ _ _ _ _ c.in_ok-begin.ensures (stops_more _ _ _ _ _ _ c.in_err-print_ties.ensures))

pub returns-in_err-print_left : goal.returns-in_err-print_left
returns-in_err-print_left g c = failed _ c.from_residual-in_err-print_left.result _ _ _ _ c.from_residual-in_err-print_left.ensures.1
    (stops_after _ _ _ _ _ _ _ c.in_ok-begin.ensures
    (stops_after _ _ _ _ _ _ _ c.in_ok-print_ties.ensures (stops_more _ _ _ _ _ _ c.in_err-print_left.ensures)))

pub returns : goal.returns
returns g c = prints_after _ _ _ _ _ _ c.end.result c.in_ok-begin.ensures (prints_after _ _ _ _ _ _ c.end.result c.in_ok-print_ties.ensures (prints_after _ _ _ _ _ _ c.end.result c.in_ok-print_left.ensures c.end.ensures))
