use Rattle.page_layout.proofs.RecordLemmas.{one_version, short_spare, version_1, version_2, is_version_1, is_version_2, no_version, unsound_no_version}
use Rattle.page_layout.proofs.laws.version_laws.Goals as goal

pub returns-clause-one : goal.returns-clause-one
returns-clause-one c = one_version

pub returns-clause-short_spare : goal.returns-clause-short_spare
returns-clause-short_spare c = short_spare

pub returns-clause-version : goal.returns-clause-version
returns-clause-version c = λ p r found. ((is_version_1 p r found, version_1 p r), (is_version_2 p r found, version_2 p r))

pub returns-clause-no_version : goal.returns-clause-no_version
returns-clause-no_version c = λ p. (no_version p, unsound_no_version p)
