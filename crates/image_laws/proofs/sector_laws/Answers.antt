use Rattle.image_laws.proofs.SectorLemmas.{one_tie, top_tie, shown, held, shown_read}
use Rattle.image_laws.proofs.sector_laws.Goals as goal

pub returns-clause-tie : goal.returns-clause-tie
returns-clause-tie c = one_tie

pub returns-clause-top : goal.returns-clause-top
returns-clause-top c = top_tie

pub returns-clause-shown : goal.returns-clause-shown
returns-clause-shown c = shown

pub returns-clause-held : goal.returns-clause-held
returns-clause-held c = held

pub returns-clause-read : goal.returns-clause-read
returns-clause-read c = shown_read
