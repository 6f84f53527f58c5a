use Rattle.std.proofs.lemmas.Result.{err_from_is_err_and}
use Rattle.collection.specs.Safe.{ram}
use Rattle.collection.proofs.Acts.{acts_noted, not_standing, stands_still, is_standing}
use Rattle.collection.proofs.Noted.{room_noted, counts_noted}
use Rattle.collection.proofs.Made.{makes_noted}
use Rattle.collection.proofs.engine.Engine.make_room.Goals as goal

pub returns : goal.returns
returns g c = record {
  stands = rw (c.noted.ensures.same, c.noted.ensures.noted) (acts_noted _ _ _ (not_standing _ _ c.in_ok-standing.ensures) c.regain-answer.ensures.acts);
  makes = λ none. rw (c.noted.ensures.same, c.noted.ensures.noted, ← c.wanted.ensures) (makes_noted c.wanted.result c.args.flushing c.args.self.now c.regain-answer.new.self c.regain-answer.result c.regain-answer.ensures.makes);
  room = rw (c.noted.ensures.same, c.noted.ensures.noted, ← c.wanted.ensures) (room_noted _ _ (ram c.regain-answer.new.self) c.regain-answer.result c.regain-answer.ensures.room);
  count = λ honest none w passed few failures enough. rw (c.noted.ensures.same, c.noted.ensures.noted, ← c.wanted.ensures) (counts_noted _ _ failures _ (ram c.regain-answer.new.self) c.regain-answer.result (c.regain-answer.ensures.count honest w passed few failures enough));
  stops = λ honest none w passed. rw (c.noted.ensures.same, c.noted.ensures.noted) (λ ne. c.regain-answer.ensures.stops honest w passed ne);
  cut = λ honest none w passed. rw (c.noted.ensures.same, c.noted.ensures.noted) (λ is. c.regain-answer.ensures.cut honest w passed is);
}

-- ---- a fault stands

pub returns-in_err-standing-clause-stands : goal.returns-in_err-standing-clause-stands
returns-in_err-standing-clause-stands g c =
    let p = err_from_is_err_and c.from_residual.result c.from_residual.ensures.1 in
    rw (p.1, p.2) (stands_still _ _ c.requires.safe (is_standing _ _ c.in_err-standing.ensures))
