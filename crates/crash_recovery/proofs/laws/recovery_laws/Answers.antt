use Rattle.crash_recovery.proofs.CutLemmas.{cut_first, left_torn, recovered_lasts, recovered_torn}
use Rattle.crash_recovery.proofs.laws.recovery_laws.Goals as goal

pub returns-clause-lasts : goal.returns-clause-lasts
returns-clause-lasts c = recovered_lasts

pub returns-clause-torn : goal.returns-clause-torn
returns-clause-torn c = recovered_torn

pub returns-clause-cut_first : goal.returns-clause-cut_first
returns-clause-cut_first c = cut_first

pub returns-clause-left : goal.returns-clause-left
returns-clause-left c = left_torn
