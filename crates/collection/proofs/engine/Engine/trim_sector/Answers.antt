use Rattle.std.proofs.Common.{◌≡◌, ◌∙◌, ap, length, replicate, refl}
use Rattle.std.proofs.lemmas.List.{with_items_is}
use Rattle.std.proofs.lemmas.Result.{err_from_is_err_and}
use Rattle.page_layout.specs.declared.record.Kind.TheVariants.{Trim}
use Rattle.collection.specs.Safe.{ram, image_in}
use Rattle.collection.specs.Stops.{IsPutByStop}
use Rattle.collection.proofs.HalfPuts.{cut_bytes}
use Rattle.collection.proofs.Acts.{stands_still, is_standing, acts_noted, not_standing, acts_filled}
use Rattle.collection.proofs.Gates.{goes_noted}
use Rattle.collection.proofs.Standing.{standing_none}
use Rattle.collection.proofs.Memory.{goes_same}
use Rattle.collection.proofs.Exits.{settled_noted, programmed_noted, page_costs_noted, written_noted, no_more_same}
use Rattle.collection.proofs.engine.Engine.trim_sector.Goals as goal

pub returns : goal.returns
returns g c =
    let items = with_items_is c.args.self.now.page.body c.clear.new.out (c.clear.auto.out ∙ c.deref_mut.ensures.len) in
    let size : length c.deref_mut.result.now ≡ c.args.self.now.geometry.data_bytes = c.deref_mut.ensures.len ∙ (c.args.self.now.page.body.ok.0 ∙ c.requires.safe.page.body) in
    let cleared = items ∙ (c.clear.ensures ∙ ap (λ k. replicate k 0) size) in
    rw (c.noted.ensures.same, c.noted.ensures.noted) (record {
      stands = acts_noted _ _ _ (not_standing _ _ c.in_ok-standing.ensures) (acts_filled _ _ _ _ c.append-answer.ensures.acts);
      goes = goes_noted _ _ _ c.append-answer.ensures.goes;
      only_programs = c.append-answer.ensures.only_programs;
      pin = c.append-answer.ensures.pin;
      keys = c.append-answer.ensures.keys;
      no_more = c.append-answer.ensures.no_more;
      moved = c.append-answer.ensures.moved;
      settled = settled_noted _ (ram c.args.self.now) (ram c.append-answer.new.self) c.args.sector _ c.append-answer.ensures.settled;
      page = λ none.
          ap (λ b. b.items) c.append-answer.ensures.page ∙ (items ∙ (c.clear.ensures ∙ ap (λ k. replicate k 0) size));
      scratch = c.append-answer.ensures.scratch;
      programmed = programmed_noted _ (ram c.args.self.now) (ram c.append-answer.new.self) Trim c.args.sector _ _ c.append-answer.ensures.programmed;
      cost = λ none. page_costs_noted _ (ram c.args.self.now) (ram c.append-answer.new.self) _ _ c.append-answer.ensures.cost;
      truth = λ honest none w.
          written_noted _ (ram c.args.self.now) (ram c.append-answer.new.self) Trim c.args.sector _ _ _ _ _ cleared (c.append-answer.ensures.truth honest w);
      stops = λ honest none w ne. c.append-answer.ensures.stops honest w ne;
      cut = λ honest none w e.
          cut_bytes (λ bytes. IsPutByStop Trim c.args.sector bytes (ram c.args.self.now) (image_in g.N.PageSource.view.flash c.args.self.now)) _ _ _ _ _ cleared (c.append-answer.ensures.cut honest w e);
    })

-- ---- a fault stands

pub returns-in_err-standing : goal.returns-in_err-standing
returns-in_err-standing g c =
    let p = err_from_is_err_and c.from_residual.result c.from_residual.ensures.1 in
    rw (p.1, p.2) (record {
      stands = stands_still _ _ c.requires.safe (is_standing _ _ c.in_err-standing.ensures);
      goes = goes_same _;
      only_programs = record { reads_are = refl; erases_are = refl };
      pin = refl;
      keys = refl;
      no_more = no_more_same c.args.self.now.mapping;
      moved = refl;
      settled = tt;
      page = λ none. absurd (standing_none _ _ c.in_err-standing.ensures none);
      scratch = refl;
      programmed = tt;
      cost = λ none. absurd (standing_none _ _ c.in_err-standing.ensures none);
      truth = λ _ none. absurd (standing_none _ _ c.in_err-standing.ensures none);
      stops = λ _ none. absurd (standing_none _ _ c.in_err-standing.ensures none);
      cut = λ _ none. absurd (standing_none _ _ c.in_err-standing.ensures none);
    })

pub append-answer-requires-clause-kind : goal.append-answer-requires-clause-kind
append-answer-requires-clause-kind g c = refl

pub append-answer-requires-clause-sector : goal.append-answer-requires-clause-sector
append-answer-requires-clause-sector g c = c.requires.sector

pub append-answer-requires-clause-cached : goal.append-answer-requires-clause-cached
append-answer-requires-clause-cached g c = c.requires.cached
