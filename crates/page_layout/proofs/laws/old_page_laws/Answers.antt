use Rattle.page_layout.proofs.VersionLemmas.{version_page, old_at, old_from, kept_adds_none, written_adds_none, written_not_old, no_more_old, fewer_old}
use Rattle.page_layout.proofs.laws.old_page_laws.Goals as goal

pub returns-clause-row : goal.returns-clause-row
returns-clause-row c = version_page

pub returns-clause-old : goal.returns-clause-old
returns-clause-old c = λ image key. (old_at image key, old_from image key)

pub returns-clause-kept : goal.returns-clause-kept
returns-clause-kept c = kept_adds_none

pub returns-clause-written : goal.returns-clause-written
returns-clause-written c = written_adds_none

pub returns-clause-new : goal.returns-clause-new
returns-clause-new c = written_not_old

pub returns-clause-no_more : goal.returns-clause-no_more
returns-clause-no_more c = no_more_old

pub returns-clause-fewer : goal.returns-clause-fewer
returns-clause-fewer c = fewer_old
