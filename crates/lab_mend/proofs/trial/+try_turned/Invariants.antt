use Rattle.std.proofs.Common.{length}
use Rattle.lab_mend.proofs.trial.+try_turned.Given as goal

abbrev pub decreases-try_turned : goal.decreases-try_turned
decreases-try_turned l = length l.bits.now
