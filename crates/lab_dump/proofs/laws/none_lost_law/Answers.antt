use Rattle.lab_dump.proofs.LostLemmas.{longer_log, none_lost, one_program}
use Rattle.lab_dump.proofs.laws.none_lost_law.Goals as goal

pub returns : goal.returns
returns c = record { none = none_lost; program = one_program; longer = longer_log }
