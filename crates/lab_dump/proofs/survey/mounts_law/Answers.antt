use Rattle.lab_dump.proofs.MountsLemmas.{mounts}
use Rattle.lab_dump.proofs.survey.mounts_law.Goals as goal

pub returns : goal.returns
returns c = mounts
