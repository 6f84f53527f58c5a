use Rattle.std.proofs.lemmas.Result.{err_from_is_err_and}
use Rattle.std.proofs.Common.{ap, ◌∙◌, refl, sym, subst, length}
use Rattle.collection.specs.Pages.{newest_row}
use Rattle.collection.specs.Safe.{ram, image_in}
use Rattle.collection.specs.Stops.{IsKeptOrPut}
use Rattle.collection.proofs.HalfPuts.{cut_bytes}
use Rattle.collection.proofs.Puts.{array_result}
use Rattle.collection.proofs.Gates.{result_noted, goes_put_noted, costs_noted}
use Rattle.collection.proofs.Acts.{stands_still, is_standing, acts_noted, not_standing, acts_filled}
use Rattle.page_layout.specs.Live.{IsKeyOf}
use Rattle.page_layout.specs.Key.{key_of}
use Rattle.budget.specs.Stream.{stream_of}
use Rattle.collection.specs.Settle.{IsCachedKey}
use Rattle.collection.specs.Cost.{PutCosts}
use Rattle.collection.proofs.Standing.{standing_none}
use Rattle.collection.proofs.Memory.{put_same}
use Rattle.collection.proofs.Ends.{last_noted, may_put_copied, put_bytes}
use Rattle.collection.proofs.engine.Engine.put.Goals as goal

pub returns : goal.returns
returns g c =
    let a = ram c.args.self.now in
    let x = image_in g.N.PageSource.view.flash c.args.self.now in
    rw (c.noted.ensures.same, c.noted.ensures.noted) (record {
      stands = acts_noted _ _ _ (not_standing _ _ c.in_ok-standing.ensures) (acts_filled _ _ _ _ c.put_page-answer.ensures.acts);
      goes = goes_put_noted _ _ _ c.put_page-answer.ensures.goes;
      only_programs = c.put_page-answer.ensures.only_programs;
      row = c.put_page-answer.ensures.row;
      programmed = last_noted _ c.args.written.now.kind c.args.written.now.number (ram c.put_page-answer.new.self) _ c.put_page-answer.result c.put_page-answer.ensures.programmed;
      cost = λ none.
          let cost = subst (λ s. PutCosts s (ram c.args.self.now) (ram c.put_page-answer.new.self) c.put_page-answer.result) (sym c.requires.stream) c.put_page-answer.ensures.cost in
          costs_noted _ c.args.stream (ram c.args.self.now) (ram c.put_page-answer.new.self) c.put_page-answer.result cost;
      truth = λ honest none w fits.
          let may = may_put_copied c.args.written.now.kind c.args.written.now.number _ c.key.result _ c.args.body.now a x w fits c.copy_from_slice.ensures.items c.key.ensures (c.row_of_key-old_row.ensures.newest x w) in
          result_noted _ c.args.written.now.kind c.args.written.now.number c.args.body.now a (ram c.put_page-answer.new.self) x
          (image_in g.N.PageSource.view.flash c.put_page-answer.new.self) c.put_page-answer.result
          (put_bytes c.args.written.now.kind c.args.written.now.number c.args.body.now _ a (ram c.put_page-answer.new.self) x
          (image_in g.N.PageSource.view.flash c.put_page-answer.new.self) c.put_page-answer.result c.copy_from_slice.ensures.items (c.put_page-answer.ensures.truth honest may));
      array = λ honest none w fits.
          let may = may_put_copied c.args.written.now.kind c.args.written.now.number _ c.key.result _ c.args.body.now a x w fits c.copy_from_slice.ensures.items c.key.ensures (c.row_of_key-old_row.ensures.newest x w) in
          array_result c.args.written.now.kind c.args.written.now.number c.args.body.now a (ram c.put_page-answer.new.self) x
          (image_in g.N.PageSource.view.flash c.put_page-answer.new.self) c.put_page-answer.result c.requires.key
          (put_bytes c.args.written.now.kind c.args.written.now.number c.args.body.now _ a (ram c.put_page-answer.new.self) x
          (image_in g.N.PageSource.view.flash c.put_page-answer.new.self) c.put_page-answer.result c.copy_from_slice.ensures.items (c.put_page-answer.ensures.truth honest may));
      stops = λ honest none w fits.
          let may = may_put_copied c.args.written.now.kind c.args.written.now.number _ c.key.result _ c.args.body.now (ram c.args.self.now) x w fits c.copy_from_slice.ensures.items c.key.ensures (c.row_of_key-old_row.ensures.newest x w) in
          λ ne. c.put_page-answer.ensures.stops honest may ne;
      cut = λ honest none w fits e.
          let may = may_put_copied c.args.written.now.kind c.args.written.now.number _ c.key.result _ c.args.body.now (ram c.args.self.now) x w fits c.copy_from_slice.ensures.items c.key.ensures (c.row_of_key-old_row.ensures.newest x w) in
          cut_bytes (λ bytes. IsKeptOrPut c.args.written.now.kind c.args.written.now.number bytes c.args.self.now.geometry x) _ _ _ _ _ c.copy_from_slice.ensures.items
          (c.put_page-answer.ensures.cut honest may e);
    })

-- ---- a fault stands

pub returns-in_err-standing : goal.returns-in_err-standing
returns-in_err-standing g c =
    let p = err_from_is_err_and c.from_residual.result c.from_residual.ensures.1 in
    rw (p.1, p.2) (record {
      stands = stands_still _ _ c.requires.safe (is_standing _ _ c.in_err-standing.ensures);
      goes = put_same _;
      only_programs = record { reads_are = refl; erases_are = refl };
      row = tt;
      programmed = tt;
      cost = λ none. absurd (standing_none _ _ c.in_err-standing.ensures none);
      truth = λ _ none. absurd (standing_none _ _ c.in_err-standing.ensures none);
      array = λ _ none. absurd (standing_none _ _ c.in_err-standing.ensures none);
      stops = λ _ none. absurd (standing_none _ _ c.in_err-standing.ensures none);
      cut = λ _ none. absurd (standing_none _ _ c.in_err-standing.ensures none);
    })

pub row_of_key-old_row-requires-clause-key : goal.row_of_key-old_row-requires-clause-key
row_of_key-old_row-requires-clause-key g c = subst (IsKeyOf c.args.self.now.geometry) (sym c.key.ensures) c.requires.key

pub row_of_key-old_row-requires-clause-cached : goal.row_of_key-old_row-requires-clause-cached
row_of_key-old_row-requires-clause-cached g c = subst (IsCachedKey c.args.self.now.mapping) (sym c.key.ensures) c.requires.cached

pub put_page-answer-requires-clause-safe : goal.put_page-answer-requires-clause-safe
put_page-answer-requires-clause-safe g c = record {
  memory = c.requires.safe.memory;
  geometry = c.requires.safe.geometry;
  page = record { body = ap length c.copy_from_slice.ensures.items ∙ c.requires.body; spare = c.requires.safe.page.spare };
  scratch = c.requires.safe.scratch;
}

pub put_page-answer-requires-clause-key : goal.put_page-answer-requires-clause-key
put_page-answer-requires-clause-key g c = c.requires.key

pub put_page-answer-requires-clause-old_row : goal.put_page-answer-requires-clause-old_row
put_page-answer-requires-clause-old_row g c = c.row_of_key-old_row.ensures.row
