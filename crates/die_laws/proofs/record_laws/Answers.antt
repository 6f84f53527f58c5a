use Rattle.die_laws.proofs.RecordLemmas.{agreeing, behind_fault, untouched_law}
use Rattle.die_laws.proofs.record_laws.Goals as goal

pub returns-clause-agreeing : goal.returns-clause-agreeing
returns-clause-agreeing g c = agreeing

pub returns-clause-untouched : goal.returns-clause-untouched
returns-clause-untouched g c = untouched_law

pub returns-clause-behind : goal.returns-clause-behind
returns-clause-behind g c = behind_fault
