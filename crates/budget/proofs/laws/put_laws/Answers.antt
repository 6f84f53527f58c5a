use Rattle.budget.proofs.PutLemmas.{first_try, failed_try, passed_try, no_try}
use Rattle.budget.proofs.laws.put_laws.Goals as goal

pub returns : goal.returns
returns c = record { first = first_try; failed = failed_try; passed = passed_try; none = no_try }
