use Rattle.collection.proofs.Acts.{looks_same, looks_ok}
use Rattle.std.proofs.Common.{refl}
use Rattle.collection.proofs.Exits.{no_more}
use Rattle.collection.proofs.engine.Engine.find_newest.Goals as goal

pub returns-in-Translation-clause-looks : goal.returns-in-Translation-clause-looks
returns-in-Translation-clause-looks g c = looks_ok _ _ tt _ (looks_same c.args.self.now c.requires.safe)

pub returns-in-Table-clause-looks : goal.returns-in-Table-clause-looks
returns-in-Table-clause-looks g c = looks_ok _ _ tt _ (looks_same c.args.self.now c.requires.safe)

pub returns-in-Sector-clause-looks : goal.returns-in-Sector-clause-looks
returns-in-Sector-clause-looks g c = c.row_of_sector.ensures.looks

pub returns-in-Sector-clause-page : goal.returns-in-Sector-clause-page
returns-in-Sector-clause-page g c = c.row_of_sector.ensures.page

pub returns-in-Sector-clause-reads : goal.returns-in-Sector-clause-reads
returns-in-Sector-clause-reads g c = c.row_of_sector.ensures.reads

pub returns-in-Translation-clause-page : goal.returns-in-Translation-clause-page
returns-in-Translation-clause-page g c = refl

pub returns-in-Translation-clause-reads : goal.returns-in-Translation-clause-reads
returns-in-Translation-clause-reads g c = no_more _ _

pub returns-in-Table-clause-page : goal.returns-in-Table-clause-page
returns-in-Table-clause-page g c = refl

pub returns-in-Table-clause-reads : goal.returns-in-Table-clause-reads
returns-in-Table-clause-reads g c = no_more _ _

pub row_of_sector-requires-clause-safe : goal.row_of_sector-requires-clause-safe
row_of_sector-requires-clause-safe g c = c.requires.safe
