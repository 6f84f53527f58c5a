use Rattle.collection.proofs.Acts.{looks_same, looks_ok}
use Rattle.std.proofs.Common.{rules, refl}
use Rattle.collection.proofs.Looks.{ok_not_damaged}
use Rattle.collection.proofs.engine.Engine.row_of_sector.Goals as goal

pub returns-in-Some : goal.returns-in-Some
returns-in-Some g c = record {
  looks = looks_ok _ _ tt _ (looks_same c.args.self.now c.requires.safe);
  page = refl;
  reads = search rules;
  row = search rules;
  hit = search rules;
  unmapped = search rules;
  checked = search rules;
  damaged = λ e. absurd (ok_not_damaged _ e);
  truth = search rules;
}

pub returns-in-None : goal.returns-in-None
returns-in-None g c = record {
  looks = c.row_on_page.ensures.looks;
  page = c.row_on_page.ensures.page;
  reads = c.row_on_page.ensures.reads;
  row = c.row_on_page.ensures.row;
  hit = search rules;
  unmapped = search rules;
  checked = search rules;
  damaged = c.row_on_page.ensures.damaged;
  truth = c.row_on_page.ensures.truth;
}
