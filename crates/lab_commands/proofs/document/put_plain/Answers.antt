use Rattle.lab_commands.proofs.PrintLemmas.{failed, prints_after, stops_more}
use Rattle.lab_commands.proofs.document.put_plain.Goals as goal

pub returns-in_err-put_words : goal.returns-in_err-put_words
returns-in_err-put_words g c = failed _ c.from_residual.result _ _ _ _ c.from_residual.ensures.1 (stops_more _ _ _ _ _ _ c.in_err-put_words.ensures)

pub returns : goal.returns
returns g c = prints_after _ _ _ _ _ _ c.put.result c.in_ok-put_words.ensures c.put.ensures
