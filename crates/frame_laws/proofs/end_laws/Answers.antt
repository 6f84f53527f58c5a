use Rattle.frame_laws.proofs.EndLemmas.{at_end, no_header, cut}
use Rattle.frame_laws.proofs.end_laws.Goals as goal

pub returns-clause-ended : goal.returns-clause-ended
returns-clause-ended c = at_end

pub returns-clause-header : goal.returns-clause-header
returns-clause-header c = no_header

pub returns-clause-cut : goal.returns-clause-cut
returns-clause-cut c = cut
