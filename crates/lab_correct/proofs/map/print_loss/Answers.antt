use Rattle.lab_dump.proofs.MapLemmas.{then_last}
use Rattle.lab_correct.proofs.map.print_loss.Goals as goal

pub returns-clause-printed : goal.returns-clause-printed
returns-clause-printed g c = then_last _ _ _ _ _ c.print_part-2.result c.in_ok-print_part.ensures.printed c.print_part-2.ensures.printed
