use Rattle.promises.proofs.ShortLemmas.{few_good, three_failed, few_left, failed_program, read_only_before, two_failed}
use Rattle.promises.proofs.laws.worked_shortages.Goals as goal

pub returns : goal.returns
returns c = record { few_good = few_good; three_failed = three_failed; few_left = few_left; failed_program = failed_program; read_only_before = read_only_before; two_failed = two_failed }
