use Rattle.std.proofs.Common.{◌∙◌, ap}
use Rattle.std.proofs.lemmas.List.{with_items_is}
use Rattle.std.proofs.lemmas.Result.{err_from_is_err_and}
use Rattle.allocation.specs.View.{state}
use Rattle.collection.specs.Safe.{ram, image_in}
use Rattle.collection.proofs.Tables.{spelled_on, may_table, tabled}
use Rattle.collection.proofs.Looks.{ok_not_bus}
use Rattle.collection.proofs.Costs.{not_bus}
use Rattle.collection.proofs.Cuts.{cut_table}
use Rattle.collection.proofs.Steps.{err_same}
use Rattle.collection.proofs.Programs.{buffer_body}
use Rattle.collection.proofs.Acts.{acts_filled, acts_ok, acts_err}
use Rattle.collection.proofs.engine.Engine.put_table.Goals as goal

pub returns-in_err-replace : goal.returns-in_err-replace
returns-in_err-replace g c =
    let p = err_from_is_err_and c.from_residual.result c.from_residual.ensures.1 in
    rw (p.1, p.2) (record {
      acts = acts_filled _ _ _ _ (acts_err _ _ _ c.in_err-replace.ensures.acts);
      goes = c.replace.ensures.goes;
      table = c.replace.ensures.table;
      mapping = c.in_err-replace.ensures.mapping;
      pin = c.replace.ensures.pin;
      only_programs = c.replace.ensures.only_programs;
      spelled = ap (λ b. b.items) c.replace.ensures.page ∙ (spelled_on _ _ c.deref_mut.result.now c.args.self.now.page.body.items c.args.self.now.geometry c.table.result.now (state c.args.self.now.blocks).table c.args.u
          (with_items_is c.args.self.now.page.body c.write_table_page.new.page (c.write_table_page.auto.page ∙ c.deref_mut.ensures.len)) c.write_table_page.ensures c.deref_mut.ensures.value c.requires.safe.page.body c.table.ensures);
      programmed = tt;
      cost = c.in_err-replace.ensures.cost;
      truth = λ honest w.
          c.in_err-replace.ensures.truth honest
          (may_table (ram c.args.self.now) (image_in g.N.PageSource.view.flash c.args.self.now) c.args.u c.row_of_key-old_row.result _ c.requires.safe.memory w
          (spelled_on _ _ c.deref_mut.result.now c.args.self.now.page.body.items c.args.self.now.geometry c.table.result.now (state c.args.self.now.blocks).table c.args.u
          (with_items_is c.args.self.now.page.body c.write_table_page.new.page (c.write_table_page.auto.page ∙ c.deref_mut.ensures.len)) c.write_table_page.ensures c.deref_mut.ensures.value c.requires.safe.page.body c.table.ensures)
          (c.row_of_key-old_row.ensures.newest _ w));
      stops = λ honest w ne. c.in_err-replace.ensures.stops honest
          (may_table (ram c.args.self.now) (image_in g.N.PageSource.view.flash c.args.self.now) c.args.u c.row_of_key-old_row.result _ c.requires.safe.memory w
          (spelled_on _ _ c.deref_mut.result.now c.args.self.now.page.body.items c.args.self.now.geometry c.table.result.now (state c.args.self.now.blocks).table c.args.u
          (with_items_is c.args.self.now.page.body c.write_table_page.new.page (c.write_table_page.auto.page ∙ c.deref_mut.ensures.len)) c.write_table_page.ensures c.deref_mut.ensures.value c.requires.safe.page.body c.table.ensures)
          (c.row_of_key-old_row.ensures.newest _ w)) (not_bus _ ne);
      cut = λ honest w is. cut_table c.args.u _ (ram c.args.self.now) _ _ _ (c.in_err-replace.ensures.cut honest
          (may_table (ram c.args.self.now) (image_in g.N.PageSource.view.flash c.args.self.now) c.args.u c.row_of_key-old_row.result _ c.requires.safe.memory w
          (spelled_on _ _ c.deref_mut.result.now c.args.self.now.page.body.items c.args.self.now.geometry c.table.result.now (state c.args.self.now.blocks).table c.args.u
          (with_items_is c.args.self.now.page.body c.write_table_page.new.page (c.write_table_page.auto.page ∙ c.deref_mut.ensures.len)) c.write_table_page.ensures c.deref_mut.ensures.value c.requires.safe.page.body c.table.ensures)
          (c.row_of_key-old_row.ensures.newest _ w)) (err_same _ _ is));
    })

pub returns : goal.returns
returns g c = record {
  acts = acts_filled _ _ _ _ (acts_ok _ _ _ _ c.in_ok-replace.ensures.acts);
  goes = c.replace.ensures.goes;
  table = c.replace.ensures.table;
  mapping = c.in_ok-replace.ensures.mapping;
  pin = c.replace.ensures.pin;
  only_programs = c.replace.ensures.only_programs;
  spelled = ap (λ b. b.items) c.replace.ensures.page ∙ (spelled_on _ _ c.deref_mut.result.now c.args.self.now.page.body.items c.args.self.now.geometry c.table.result.now (state c.args.self.now.blocks).table c.args.u
      (with_items_is c.args.self.now.page.body c.write_table_page.new.page (c.write_table_page.auto.page ∙ c.deref_mut.ensures.len)) c.write_table_page.ensures c.deref_mut.ensures.value c.requires.safe.page.body c.table.ensures);
  programmed = c.in_ok-replace.ensures.programmed;
  cost = c.in_ok-replace.ensures.cost;
  truth = λ honest w.
      tabled (ram c.args.self.now) _ (image_in g.N.PageSource.view.flash c.args.self.now) _ c.args.u c.in_ok-replace.field-0 _
      (spelled_on _ _ c.deref_mut.result.now c.args.self.now.page.body.items c.args.self.now.geometry c.table.result.now (state c.args.self.now.blocks).table c.args.u
      (with_items_is c.args.self.now.page.body c.write_table_page.new.page (c.write_table_page.auto.page ∙ c.deref_mut.ensures.len)) c.write_table_page.ensures c.deref_mut.ensures.value c.requires.safe.page.body c.table.ensures)
      (c.in_ok-replace.ensures.truth honest
      (may_table (ram c.args.self.now) (image_in g.N.PageSource.view.flash c.args.self.now) c.args.u c.row_of_key-old_row.result _ c.requires.safe.memory w
      (spelled_on _ _ c.deref_mut.result.now c.args.self.now.page.body.items c.args.self.now.geometry c.table.result.now (state c.args.self.now.blocks).table c.args.u
      (with_items_is c.args.self.now.page.body c.write_table_page.new.page (c.write_table_page.auto.page ∙ c.deref_mut.ensures.len)) c.write_table_page.ensures c.deref_mut.ensures.value c.requires.safe.page.body c.table.ensures)
      (c.row_of_key-old_row.ensures.newest _ w))) c.in_ok-replace.ensures.row;
  stops = λ honest w ne. c.in_ok-replace.ensures.stops honest
      (may_table (ram c.args.self.now) (image_in g.N.PageSource.view.flash c.args.self.now) c.args.u c.row_of_key-old_row.result _ c.requires.safe.memory w
      (spelled_on _ _ c.deref_mut.result.now c.args.self.now.page.body.items c.args.self.now.geometry c.table.result.now (state c.args.self.now.blocks).table c.args.u
      (with_items_is c.args.self.now.page.body c.write_table_page.new.page (c.write_table_page.auto.page ∙ c.deref_mut.ensures.len)) c.write_table_page.ensures c.deref_mut.ensures.value c.requires.safe.page.body c.table.ensures)
      (c.row_of_key-old_row.ensures.newest _ w)) (ok_not_bus _);
  cut = λ _ _ e. absurd (ok_not_bus _ e);
}

pub row_of_key-old_row-requires-clause-key : goal.row_of_key-old_row-requires-clause-key
row_of_key-old_row-requires-clause-key g c = c.requires.page

pub replace-requires-clause-safe : goal.replace-requires-clause-safe
replace-requires-clause-safe g c = record {
  memory = c.requires.safe.memory;
  geometry = c.requires.safe.geometry;
  page = buffer_body c.args.self.now.geometry c.args.self.now.page c.write_table_page.new.page c.requires.safe.page;
  scratch = c.requires.safe.scratch;
}

pub replace-requires-clause-key : goal.replace-requires-clause-key
replace-requires-clause-key g c = c.requires.page

pub replace-requires-clause-old_row : goal.replace-requires-clause-old_row
replace-requires-clause-old_row g c = c.row_of_key-old_row.ensures.row
