use Rattle.lab_correct.proofs.MapLemmas.{loss_map_law}
use Rattle.lab_correct.proofs.OnceLemmas.{one_line_law}
use Rattle.lab_correct.proofs.laws.loss_map_law.Goals as goal

pub returns : goal.returns
returns c = record { lines = loss_map_law; once = one_line_law }
