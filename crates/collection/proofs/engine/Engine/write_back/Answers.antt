use Rattle.std.proofs.lemmas.Result.{err_from_is_err_and}
use Rattle.collection.proofs.Acts.{stands_still, is_standing, acts_noted, not_standing}
use Rattle.collection.proofs.Gates.{goes_noted}
use Rattle.collection.proofs.Standing.{standing_none}
use Rattle.std.proofs.Common.{refl}
use Rattle.collection.proofs.Memory.{goes_same}
use Rattle.page_layout.specs.declared.record.Kind.TheVariants.{Translation}
use Rattle.collection.specs.Safe.{ram}
use Rattle.collection.proofs.Ends.{last_noted, back_noted, back_cost_noted, no_more_still, up_to_one}
use Rattle.collection.proofs.engine.Engine.write_back.Goals as goal

pub returns : goal.returns
returns g c =
    rw (c.noted.ensures.same, c.noted.ensures.noted) (record {
      stands = acts_noted _ _ _ (not_standing _ _ c.in_ok-standing.ensures) c.write_page_back-answer.ensures.acts;
      goes = goes_noted _ _ _ c.write_page_back-answer.ensures.goes;
      reads = c.write_page_back-answer.ensures.reads;
      erases = c.write_page_back-answer.ensures.erases;
      pin = c.write_page_back-answer.ensures.pin;
      cleaned = c.write_page_back-answer.ensures.cleaned;
      cleans = c.write_page_back-answer.ensures.cleans;
      keys = c.write_page_back-answer.ensures.keys;
      no_more = c.write_page_back-answer.ensures.no_more;
      mapping = c.write_page_back-answer.ensures.mapping;
      padded = c.write_page_back-answer.ensures.padded;
      checked = c.write_page_back-answer.ensures.checked;
      programmed = last_noted _ Translation c.args.t (ram c.write_page_back-answer.new.self) _ c.write_page_back-answer.result c.write_page_back-answer.ensures.programmed;
      cost = λ none. back_cost_noted _ (ram c.args.self.now) (ram c.write_page_back-answer.new.self) c.write_page_back-answer.result c.write_page_back-answer.ensures.cost;
      truth = λ honest none w. back_noted _ c.args.t (ram c.args.self.now) (ram c.write_page_back-answer.new.self) _ _ c.write_page_back-answer.result (c.write_page_back-answer.ensures.truth honest w);
      stops = λ honest none w ne. c.write_page_back-answer.ensures.stops honest w ne;
      cut = λ honest none w is. c.write_page_back-answer.ensures.cut honest w is;
    })

-- ---- a fault stands

pub returns-in_err-standing : goal.returns-in_err-standing
returns-in_err-standing g c =
    let p = err_from_is_err_and c.from_residual.result c.from_residual.ensures.1 in
    rw (p.1, p.2) (record {
      stands = stands_still _ _ c.requires.safe (is_standing _ _ c.in_err-standing.ensures);
      goes = goes_same _;
      reads = up_to_one _;
      erases = refl;
      pin = refl;
      cleaned = tt;
      cleans = tt;
      keys = refl;
      no_more = no_more_still _;
      mapping = refl;
      padded = tt;
      checked = tt;
      programmed = tt;
      cost = λ none. absurd (standing_none _ _ c.in_err-standing.ensures none);
      truth = λ _ none. absurd (standing_none _ _ c.in_err-standing.ensures none);
      stops = λ _ none. absurd (standing_none _ _ c.in_err-standing.ensures none);
      cut = λ _ none. absurd (standing_none _ _ c.in_err-standing.ensures none);
    })

pub write_page_back-answer-requires-clause-safe : goal.write_page_back-answer-requires-clause-safe
write_page_back-answer-requires-clause-safe g c = c.requires.safe

pub write_page_back-answer-requires-clause-page : goal.write_page_back-answer-requires-clause-page
write_page_back-answer-requires-clause-page g c = c.requires.page
