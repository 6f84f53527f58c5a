use Rattle.std.proofs.lemmas.Result.{err_from_is_err_and}
use Rattle.collection.specs.Turns.{Advances}
use Rattle.collection.proofs.Acts.{acts_noted, not_standing, stands_still, is_standing}
use Rattle.collection.proofs.Turns.{advances_noted, of_pinned}
use Rattle.collection.proofs.engine.Engine.step.Goals as goal

pub advance-answer-requires-clause-half_done : goal.advance-answer-requires-clause-half_done
advance-answer-requires-clause-half_done g c = c.requires.half_done (not_standing _ _ c.in_ok-standing.ensures) c.unwrap-pinned.result c.unwrap-pinned.ensures

pub returns : goal.returns
returns g c = record {
  stands = rw (c.noted.ensures.same, c.noted.ensures.noted) (acts_noted _ _ _ (not_standing _ _ c.in_ok-standing.ensures) c.advance-answer.ensures.acts);
  advances = λ none. rw (c.noted.ensures.same, c.noted.ensures.noted)
      (of_pinned
      (λ q. Advances g.N.PageSource.view c.args.flushing q c.args.self.now _
      c.advance-answer.result) c.args.self.now.pinned c.unwrap-pinned.result c.unwrap-pinned.ensures
      (advances_noted c.args.flushing c.unwrap-pinned.result c.args.self.now c.advance-answer.new.self c.advance-answer.result
      c.advance-answer.ensures.advances));
  stops = λ honest none w passed. rw (c.noted.ensures.same, c.noted.ensures.noted) (λ ne. c.advance-answer.ensures.stops honest w (passed c.unwrap-pinned.result c.unwrap-pinned.ensures) ne);
  cut = λ honest none w passed. rw (c.noted.ensures.same, c.noted.ensures.noted) (λ is. c.advance-answer.ensures.cut honest w (passed c.unwrap-pinned.result c.unwrap-pinned.ensures) is);
}

-- ---- a fault stands

pub returns-in_err-standing-clause-stands : goal.returns-in_err-standing-clause-stands
returns-in_err-standing-clause-stands g c =
    let p = err_from_is_err_and c.from_residual.result c.from_residual.ensures.1 in
    rw (p.1, p.2) (stands_still _ _ c.requires.safe (is_standing _ _ c.in_err-standing.ensures))
