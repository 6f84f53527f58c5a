use Rattle.std.proofs.lemmas.Result.{err_from_is_err_and}
use Rattle.collection.specs.Safe.{ram}
use Rattle.collection.proofs.Acts.{acts_noted, not_standing, stands_still, is_standing}
use Rattle.collection.proofs.Noted.{but_noted, fresh_noted, cost_noted, sparing_noted, emptied_noted}
use Rattle.collection.proofs.Standing.{standing_none}
use Rattle.std.proofs.Common.{rules, refl}
use Rattle.collection.proofs.Copies.{keys_same}
use Rattle.collection.proofs.engine.Engine.collect.Goals as goal

pub returns : goal.returns
returns g c =
    rw (c.noted.ensures.same, c.noted.ensures.noted) (record {
      stands = acts_noted _ _ _ (not_standing _ _ c.in_ok-standing.ensures) c.collect_block-answer.ensures.acts;
      idle = search rules;
      unpinned = c.collect_block-answer.ensures.unpinned;
      goes = but_noted _ c.args.block _ (ram c.collect_block-answer.new.self) c.collect_block-answer.ensures.goes;
      released = c.collect_block-answer.ensures.released;
      keys = c.collect_block-answer.ensures.keys;
      refreshes = λ on. fresh_noted _ _ (ram c.collect_block-answer.new.self) (c.collect_block-answer.ensures.refreshes on);
      reads = c.collect_block-answer.ensures.reads;
      erases = c.collect_block-answer.ensures.erases;
      cost = λ none. cost_noted c.args.flushing c.args.block _ (ram c.collect_block-answer.new.self) c.collect_block-answer.result c.collect_block-answer.ensures.cost;
      sparing = λ honest none w. sparing_noted c.args.flushing c.args.block _ (ram c.collect_block-answer.new.self) c.collect_block-answer.result (c.collect_block-answer.ensures.sparing honest w);
      truth = λ honest none w. emptied_noted _ c.args.block _ (ram c.collect_block-answer.new.self) _ _ c.collect_block-answer.result (c.collect_block-answer.ensures.truth honest w);
      count = λ h0 _ h2 h3. c.collect_block-answer.ensures.count h0 h2 h3;
      thrifty = λ h0 _ h2 h3 h4. c.collect_block-answer.ensures.thrifty h0 h2 h3 h4;
      stops = λ honest none w ne. c.collect_block-answer.ensures.stops honest w ne;
      cut = λ honest none w is. c.collect_block-answer.ensures.cut honest w is;
    })

-- ---- a fault stands

pub returns-in_err-standing : goal.returns-in_err-standing
returns-in_err-standing g c =
    let p = err_from_is_err_and c.from_residual.result c.from_residual.ensures.1 in
    rw (p.1, p.2) (record {
      stands = stands_still _ _ c.requires.safe (is_standing _ _ c.in_err-standing.ensures);
      idle = tt;
      unpinned = tt;
      goes = search rules;
      released = tt;
      keys = keys_same _ _ refl;
      refreshes = search rules;
      reads = search rules;
      erases = tt;
      cost = λ none. absurd (standing_none _ _ c.in_err-standing.ensures none);
      sparing = λ _ none. absurd (standing_none _ _ c.in_err-standing.ensures none);
      truth = λ _ none. absurd (standing_none _ _ c.in_err-standing.ensures none);
      count = λ _ none. absurd (standing_none _ _ c.in_err-standing.ensures none);
      thrifty = λ _ none. absurd (standing_none _ _ c.in_err-standing.ensures none);
      stops = λ _ none. absurd (standing_none _ _ c.in_err-standing.ensures none);
      cut = λ _ none. absurd (standing_none _ _ c.in_err-standing.ensures none);
    })
