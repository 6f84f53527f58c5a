use Rattle.lab_commands.proofs.PrintLemmas.{failed, prints_after, stops_more}
use Rattle.lab_commands.proofs.document.put_next.Goals as goal

pub returns-in_err-put : goal.returns-in_err-put
returns-in_err-put g c = failed _ c.from_residual.result _ _ _ _ c.from_residual.ensures.1 (stops_more _ _ _ _ _ _ c.in_err-put.ensures)

pub returns : goal.returns
returns g c = prints_after _ _ _ _ _ _ c.put_object.result c.in_ok-put.ensures c.put_object.ensures
