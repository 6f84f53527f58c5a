use Rattle.certificate.proofs.LawLemmas.{one_spelling, none_begins_another}
use Rattle.certificate.proofs.laws.spelling_laws.Goals as goal

pub returns-clause-one : goal.returns-clause-one
returns-clause-one c = one_spelling

pub returns-clause-beginning : goal.returns-clause-beginning
returns-clause-beginning c = none_begins_another
