use Rattle.std.proofs.lemmas.Result.{err_from_is_err_and}
use Rattle.collection.proofs.Acts.{stands_still, is_standing, not_standing, acts_noted}
use Rattle.collection.proofs.Gates.{goes_noted}
use Rattle.collection.proofs.Standing.{standing_none}
use Rattle.std.proofs.Common.{refl}
use Rattle.collection.proofs.Memory.{goes_same, table_kept}
use Rattle.page_layout.specs.declared.record.Kind.TheVariants.{Table}
use Rattle.budget.specs.declared.stream.Stream.TheVariants.{Meta}
use Rattle.collection.specs.Safe.{ram}
use Rattle.collection.proofs.Ends.{last_noted, tabled_noted, page_cost_noted}
use Rattle.collection.proofs.engine.Engine.write_table.Goals as goal

pub returns : goal.returns
returns g c =
    rw (c.noted.ensures.same, c.noted.ensures.noted) (record {
      stands = acts_noted _ _ _ (not_standing _ _ c.in_ok-standing.ensures) c.put_table-answer.ensures.acts;
      goes = goes_noted _ _ _ c.put_table-answer.ensures.goes;
      table = c.put_table-answer.ensures.table;
      mapping = c.put_table-answer.ensures.mapping;
      pin = c.put_table-answer.ensures.pin;
      only_programs = c.put_table-answer.ensures.only_programs;
      spelled = λ none. c.put_table-answer.ensures.spelled;
      programmed = last_noted _ Table c.args.u (ram c.put_table-answer.new.self) _ c.put_table-answer.result c.put_table-answer.ensures.programmed;
      cost = λ none. page_cost_noted _ Meta (ram c.args.self.now) (ram c.put_table-answer.new.self) c.put_table-answer.result c.put_table-answer.ensures.cost;
      truth = λ honest none w. tabled_noted _ c.args.u (ram c.args.self.now) (ram c.put_table-answer.new.self) _ _ c.put_table-answer.result (c.put_table-answer.ensures.truth honest w);
      stops = λ honest none w ne. c.put_table-answer.ensures.stops honest w ne;
      cut = λ honest none w is. c.put_table-answer.ensures.cut honest w is;
    })

-- ---- a fault stands

pub returns-in_err-standing : goal.returns-in_err-standing
returns-in_err-standing g c =
    let p = err_from_is_err_and c.from_residual.result c.from_residual.ensures.1 in
    rw (p.1, p.2) (record {
      stands = stands_still _ _ c.requires.safe (is_standing _ _ c.in_err-standing.ensures);
      goes = goes_same _;
      table = table_kept _ _ refl;
      mapping = refl;
      pin = refl;
      only_programs = record { reads_are = refl; erases_are = refl };
      spelled = λ none. absurd (standing_none _ _ c.in_err-standing.ensures none);
      programmed = tt;
      cost = λ none. absurd (standing_none _ _ c.in_err-standing.ensures none);
      truth = λ _ none. absurd (standing_none _ _ c.in_err-standing.ensures none);
      stops = λ _ none. absurd (standing_none _ _ c.in_err-standing.ensures none);
      cut = λ _ none. absurd (standing_none _ _ c.in_err-standing.ensures none);
    })

pub put_table-answer-requires-clause-safe : goal.put_table-answer-requires-clause-safe
put_table-answer-requires-clause-safe g c = c.requires.safe

pub put_table-answer-requires-clause-page : goal.put_table-answer-requires-clause-page
put_table-answer-requires-clause-page g c = c.requires.page
