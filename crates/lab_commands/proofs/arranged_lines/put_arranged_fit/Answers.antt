use Rattle.lab_commands.proofs.PrintLemmas.{failed, stops_after, stops_more, prints_after}
use Rattle.lab_commands.proofs.arranged_lines.put_arranged_fit.Goals as goal

pub returns-in_err-put_fit : goal.returns-in_err-put_fit
returns-in_err-put_fit g c = failed _ c.from_residual.result _ _ _ _ c.from_residual.ensures.1 (stops_more _ _ _ _ _ _ c.in_err-put_fit.ensures)

pub returns-in_err-put_arrange : goal.returns-in_err-put_arrange
returns-in_err-put_arrange g c = failed _ c.from_residual-in_err-put_arrange.result _ _ _ _ c.from_residual-in_err-put_arrange.ensures.1 (stops_after _ _ _ _ _ _ _ c.in_ok-put_fit.ensures (stops_more _ _ _ _ _ _ c.in_err-put_arrange.ensures))

pub returns : goal.returns
returns g c = prints_after _ _ _ _ _ _ c.put_arrangement.result c.in_ok-put_fit.ensures (prints_after _ _ _ _ _ _ c.put_arrangement.result c.in_ok-put_arrange.ensures c.put_arrangement.ensures)
