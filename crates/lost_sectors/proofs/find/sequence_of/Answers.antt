use Rattle.std.proofs.Common.{◌∙◌, sym}
use Rattle.lost_sectors.proofs.LostLemmas.{newest_sequence_none}
use Rattle.lost_sectors.proofs.FindLemmas.{sequence_missing, sequence_some}
use Rattle.lost_sectors.proofs.find.sequence_of.Goals as goal

pub returns-in_default-clause-found : goal.returns-in_default-clause-found
returns-in_default-clause-found g c h key is = sym (newest_sequence_none _ key (is ∙ c.in_default.is))

pub returns-in-Some-2-clause-found : goal.returns-in-Some-2-clause-found
returns-in-Some-2-clause-found g c h key is = sequence_some _ c.in-Some.row c.in_ok-found.field-0 c.in-Some-2.found (c.in_ok-found.ensures.found h) c.in-Some-2.is key (is ∙ c.in-Some.is)

pub returns-in-None-clause-found : goal.returns-in-None-clause-found
returns-in-None-clause-found g c h key is = sequence_missing _ c.in-Some.row c.in_ok-found.field-0 (c.in_ok-found.ensures.found h) c.in-None.is key (is ∙ c.in-Some.is)
