use Rattle.lab_dump.proofs.UntilLemmas.{counts_law, all_count_law, later_page_law, then_law}
use Rattle.lab_dump.proofs.until.until_laws.Goals as goal

pub returns : goal.returns
returns c = record { counts = counts_law; all = all_count_law; later = later_page_law; then = then_law }
