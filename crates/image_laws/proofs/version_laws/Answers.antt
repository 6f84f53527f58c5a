use Rattle.image_laws.proofs.VersionLemmas.{moved_version, stayed_version}
use Rattle.image_laws.proofs.version_laws.Goals as goal

pub returns-clause-moved : goal.returns-clause-moved
returns-clause-moved c = moved_version

pub returns-clause-stayed : goal.returns-clause-stayed
returns-clause-stayed c = stayed_version
