use Rattle.std.proofs.Common.{refl}
use Rattle.page_layout.specs.Key.{key_from}
use Rattle.collection.specs.Safe.{ram}
use Rattle.collection.proofs.Settles.{settled_ram}
use Rattle.collection.proofs.Afters.{settles_sector, settles_page, settles_table}
use Rattle.collection.proofs.engine.Engine.settle.Goals as goal

pub returns-in-Sector-clause-settles : goal.returns-in-Sector-clause-settles
returns-in-Sector-clause-settles g c = settles_sector c.args.kind c.args.number c.args.row (ram c.args.self.now) _ c.in-Sector.is c.set_row.ensures

pub returns-in-Sector-clause-safe : goal.returns-in-Sector-clause-safe
returns-in-Sector-clause-safe g c = record {
  memory = settled_ram (ram c.args.self.now) _ (key_from c.args.kind c.args.number) c.args.row c.requires.safe.memory c.requires.key c.requires.row (returns-in-Sector-clause-settles g c);
  geometry = c.requires.safe.geometry;
  page = c.requires.safe.page;
  scratch = c.requires.safe.scratch;
}

pub returns-in-Sector-clause-nand : goal.returns-in-Sector-clause-nand
returns-in-Sector-clause-nand g c = refl

pub returns-in-Sector-clause-page : goal.returns-in-Sector-clause-page
returns-in-Sector-clause-page g c = refl

pub returns-in-Sector-clause-scratch : goal.returns-in-Sector-clause-scratch
returns-in-Sector-clause-scratch g c = refl

pub returns-in-Translation-clause-settles : goal.returns-in-Translation-clause-settles
returns-in-Translation-clause-settles g c = settles_page c.args.kind c.args.number c.args.row (ram c.args.self.now) _ c.in-Translation.is c.set.ensures

pub returns-in-Translation-clause-safe : goal.returns-in-Translation-clause-safe
returns-in-Translation-clause-safe g c = record {
  memory = settled_ram (ram c.args.self.now) _ (key_from c.args.kind c.args.number) c.args.row c.requires.safe.memory c.requires.key c.requires.row (returns-in-Translation-clause-settles g c);
  geometry = c.requires.safe.geometry;
  page = c.requires.safe.page;
  scratch = c.requires.safe.scratch;
}

pub returns-in-Translation-clause-nand : goal.returns-in-Translation-clause-nand
returns-in-Translation-clause-nand g c = refl

pub returns-in-Translation-clause-page : goal.returns-in-Translation-clause-page
returns-in-Translation-clause-page g c = refl

pub returns-in-Translation-clause-scratch : goal.returns-in-Translation-clause-scratch
returns-in-Translation-clause-scratch g c = refl

pub returns-in-Table-clause-settles : goal.returns-in-Table-clause-settles
returns-in-Table-clause-settles g c = settles_table c.args.kind c.args.number c.args.row c.translation_pages.result (ram c.args.self.now) _ c.in-Table.is c.translation_pages.ensures c.set-in-Table.ensures

pub returns-in-Table-clause-safe : goal.returns-in-Table-clause-safe
returns-in-Table-clause-safe g c = record {
  memory = settled_ram (ram c.args.self.now) _ (key_from c.args.kind c.args.number) c.args.row c.requires.safe.memory c.requires.key c.requires.row (returns-in-Table-clause-settles g c);
  geometry = c.requires.safe.geometry;
  page = c.requires.safe.page;
  scratch = c.requires.safe.scratch;
}

pub returns-in-Table-clause-nand : goal.returns-in-Table-clause-nand
returns-in-Table-clause-nand g c = refl

pub returns-in-Table-clause-page : goal.returns-in-Table-clause-page
returns-in-Table-clause-page g c = refl

pub returns-in-Table-clause-scratch : goal.returns-in-Table-clause-scratch
returns-in-Table-clause-scratch g c = refl
