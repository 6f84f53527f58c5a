use Rattle.lab_custody.proofs.LawLemmas.{none_changed, put_reads_back}
use Rattle.lab_custody.proofs.laws.custody_laws.Goals as goal

pub returns-clause-none_changed : goal.returns-clause-none_changed
returns-clause-none_changed c = none_changed

pub returns-clause-put_reads_back : goal.returns-clause-put_reads_back
returns-clause-put_reads_back c = put_reads_back
