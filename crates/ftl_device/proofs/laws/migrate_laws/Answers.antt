use Rattle.ftl_device.proofs.CursorLemmas.{one_found, goes_on}
use Rattle.ftl_device.proofs.laws.migrate_laws.Goals as goal

pub returns-clause-one : goal.returns-clause-one
returns-clause-one c = one_found

pub returns-clause-goes_on : goal.returns-clause-goes_on
returns-clause-goes_on c = goes_on
