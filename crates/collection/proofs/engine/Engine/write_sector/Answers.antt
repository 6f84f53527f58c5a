use Rattle.std.proofs.lemmas.Result.{err_from_is_err_and}
use Rattle.page_layout.specs.declared.record.Kind.TheVariants.{Sector}
use Rattle.collection.specs.Safe.{ram, image_in}
use Rattle.collection.specs.Stops.{IsPutByStop}
use Rattle.collection.proofs.HalfPuts.{cut_bytes}
use Rattle.collection.proofs.Acts.{stands_still, is_standing, acts_noted, not_standing, acts_filled}
use Rattle.std.proofs.Common.{refl, ap, ◌∙◌, length}
use Rattle.budget.specs.declared.stream.Stream.TheVariants.{Data}
use Rattle.collection.proofs.Gates.{goes_noted}
use Rattle.collection.proofs.Standing.{standing_none}
use Rattle.collection.proofs.Memory.{goes_same}
use Rattle.collection.proofs.Ends.{last_noted, settled_noted, page_cost_noted, written_noted, no_more_still}
use Rattle.collection.proofs.engine.Engine.write_sector.Goals as goal

pub returns : goal.returns
returns g c =
    rw (c.noted.ensures.same, c.noted.ensures.noted) (record {
      stands = acts_noted _ _ _ (not_standing _ _ c.in_ok-standing.ensures) (acts_filled _ _ _ _ c.append-answer.ensures.acts);
      goes = goes_noted _ _ _ c.append-answer.ensures.goes;
      only_programs = c.append-answer.ensures.only_programs;
      pin = c.append-answer.ensures.pin;
      keys = c.append-answer.ensures.keys;
      no_more = c.append-answer.ensures.no_more;
      moved = c.append-answer.ensures.moved;
      settled = settled_noted _ c.args.sector (ram c.args.self.now) (ram c.append-answer.new.self) c.append-answer.result c.append-answer.ensures.settled;
      page = λ none. ap (λ b. b.items) c.append-answer.ensures.page ∙ c.copy_from_slice.ensures.items;
      scratch = c.append-answer.ensures.scratch;
      programmed = last_noted _ Sector c.args.sector (ram c.append-answer.new.self) _ c.append-answer.result c.append-answer.ensures.programmed;
      cost = λ none. page_cost_noted _ Data (ram c.args.self.now) (ram c.append-answer.new.self) c.append-answer.result c.append-answer.ensures.cost;
      truth = λ honest none w. written_noted _ Sector c.args.sector c.args.body.now _ (ram c.args.self.now) (ram c.append-answer.new.self) _ _ c.append-answer.result
          c.copy_from_slice.ensures.items (c.append-answer.ensures.truth honest w);
      stops = λ honest none w ne. c.append-answer.ensures.stops honest w ne;
      cut = λ honest none w e.
          cut_bytes (λ bytes. IsPutByStop Sector c.args.sector bytes (ram c.args.self.now) (image_in g.N.PageSource.view.flash c.args.self.now)) _ _ _ _ _ c.copy_from_slice.ensures.items (c.append-answer.ensures.cut honest w e);
    })

-- ---- a fault stands

pub returns-in_err-standing : goal.returns-in_err-standing
returns-in_err-standing g c =
    let p = err_from_is_err_and c.from_residual.result c.from_residual.ensures.1 in
    rw (p.1, p.2) (record {
      stands = stands_still _ _ c.requires.safe (is_standing _ _ c.in_err-standing.ensures);
      goes = goes_same _;
      only_programs = record { reads_are = refl; erases_are = refl };
      pin = refl;
      keys = refl;
      no_more = no_more_still _;
      moved = refl;
      settled = tt;
      page = λ none. absurd (standing_none _ _ c.in_err-standing.ensures none);
      scratch = refl;
      programmed = tt;
      cost = λ none. absurd (standing_none _ _ c.in_err-standing.ensures none);
      truth = λ _ none. absurd (standing_none _ _ c.in_err-standing.ensures none);
      stops = λ _ none. absurd (standing_none _ _ c.in_err-standing.ensures none);
      cut = λ _ none. absurd (standing_none _ _ c.in_err-standing.ensures none);
    })

pub append-answer-requires-clause-safe : goal.append-answer-requires-clause-safe
append-answer-requires-clause-safe g c = record {
  memory = c.requires.safe.memory;
  geometry = c.requires.safe.geometry;
  page = record { body = ap length c.copy_from_slice.ensures.items ∙ c.requires.body; spare = c.requires.safe.page.spare };
  scratch = c.requires.safe.scratch;
}
