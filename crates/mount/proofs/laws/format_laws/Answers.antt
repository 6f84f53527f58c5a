use Rattle.mount.proofs.FormatLaws.{few, used, fresh}
use Rattle.mount.proofs.laws.format_laws.Goals as goal

pub returns-clause-few : goal.returns-clause-few
returns-clause-few c = few

pub returns-clause-used : goal.returns-clause-used
returns-clause-used c = used

pub returns-clause-fresh : goal.returns-clause-fresh
returns-clause-fresh c = fresh
