use Rattle.block_server.proofs.LawLemmas.{one_array, headline_answers, headline_leads, headline_bad, headline_once}
use Rattle.block_server.proofs.laws.headline_laws.Goals as goal

pub returns-clause-one : goal.returns-clause-one
returns-clause-one c = one_array

pub returns-clause-answers : goal.returns-clause-answers
returns-clause-answers c = headline_answers

pub returns-clause-leads : goal.returns-clause-leads
returns-clause-leads c = headline_leads

pub returns-clause-bad : goal.returns-clause-bad
returns-clause-bad c = headline_bad

pub returns-clause-once : goal.returns-clause-once
returns-clause-once c = headline_once
