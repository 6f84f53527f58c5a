use Rattle.disk_damage.proofs.LookLemmas.{bad_are, unsound_are}
use Rattle.disk_damage.proofs.laws.look_laws.Goals as goal

pub returns-clause-bad : goal.returns-clause-bad
returns-clause-bad c = bad_are

pub returns-clause-unsound : goal.returns-clause-unsound
returns-clause-unsound c = unsound_are
