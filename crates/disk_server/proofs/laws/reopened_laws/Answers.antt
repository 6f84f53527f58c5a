use Rattle.disk_server.proofs.ReopenedLemmas.{anew_law, gone_law, terms_law}
use Rattle.disk_server.proofs.laws.reopened_laws.Goals as goal

pub returns-clause-gone : goal.returns-clause-gone
returns-clause-gone g c = gone_law _ _ _ _

pub returns-clause-terms : goal.returns-clause-terms
returns-clause-terms g c = terms_law _ _ _ _

pub returns-clause-anew : goal.returns-clause-anew
returns-clause-anew g c = anew_law _ _ _ _
